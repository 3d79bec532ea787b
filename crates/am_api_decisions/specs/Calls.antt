-- The calls on decisions, and the one that a request makes.
use Rattle.std.specs.Prelude.{◌≡◌, ◌≢◌, ℕ, Bool, List, codes, nat_eq, Result, Ok, Err}
use Rattle.std.specs.List.{starts_with}
use Rattle.am_http.specs.Paths.{path_of, query_of}
use Rattle.am_api_decisions.specs.declared.cause.DecisionCause.{DecisionCause}
use Rattle.am_api_decisions.specs.declared.cause.DecisionCause.TheVariants.{NoSuchPath, MethodNotAllowed}
use Rattle.am_api_decisions.specs.declared.cause.DecisionResource.TheVariants.{Decisions, Notices, Entries, Alerts}
use Rattle.am_api_decisions.specs.declared.routes.DecisionCall.{DecisionCall}
use Rattle.am_api_decisions.specs.declared.routes.DecisionCall.TheVariants as calls

-- The target lies below /v1/, where all these calls are.
abbrev pub is_below : List ℕ → Bool
is_below target = starts_with nat_eq target (codes "/v1/")

-- the paths of the four calls
abbrev pub decide_path : List ℕ
decide_path = codes "/v1/decide"

abbrev pub notified_path : List ℕ
notified_path = codes "/v1/notified"

abbrev pub log_path : List ℕ
log_path = codes "/v1/log"

abbrev pub alerts_path : List ℕ
alerts_path = codes "/v1/alerts"

-- The path is that of no call.
pub record IsNoPath (path : List ℕ) : Type 0 where
  pub no_decision : path ≢ decide_path
  pub no_notice : path ≢ notified_path
  pub no_log : path ≢ log_path
  pub no_alerts : path ≢ alerts_path

-- A request with this method and target makes the call; or its path names nothing, or has no such method.
abbrev pub IsCallOf : List ℕ → List ℕ → Result DecisionCall DecisionCause → Type 0
IsCallOf method target (Ok (calls.Decide query)) = (path_of target ≡ decide_path) × (method ≡ codes "POST") × (query.now ≡ query_of target)
IsCallOf method target (Ok calls.Notified) = (path_of target ≡ notified_path) × (method ≡ codes "POST")
IsCallOf method target (Ok calls.Log) = (path_of target ≡ log_path) × (method ≡ codes "GET")
IsCallOf method target (Ok calls.Alerts) = (path_of target ≡ alerts_path) × (method ≡ codes "GET")
IsCallOf method target (Err NoSuchPath) = IsNoPath (path_of target)
IsCallOf method target (Err (MethodNotAllowed Decisions)) = (path_of target ≡ decide_path) × (method ≢ codes "POST")
IsCallOf method target (Err (MethodNotAllowed Notices)) = (path_of target ≡ notified_path) × (method ≢ codes "POST")
IsCallOf method target (Err (MethodNotAllowed Entries)) = (path_of target ≡ log_path) × (method ≢ codes "GET")
IsCallOf method target (Err (MethodNotAllowed Alerts)) = (path_of target ≡ alerts_path) × (method ≢ codes "GET")
IsCallOf method target (Err _) = ⊥
