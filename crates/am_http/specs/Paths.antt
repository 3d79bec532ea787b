-- The calls on silences of API v2, and the call that a request asks for.
use Rattle.std.specs.Prelude.{◌≡◌, ◌≢◌, ◌==◌, ℕ, ◌<◌, List, ◌++◌, length, Contains, codes, Result, Ok, Err}
use Rattle.std.specs.List.{before_first, after_first}
use Rattle.am_http.specs.declared.cause.Cause.{Cause}
use Rattle.am_http.specs.declared.cause.Cause.TheVariants.{NoSuchPath, MethodNotAllowed}
use Rattle.am_http.specs.declared.cause.Resource.TheVariants.{Silences, Silence}
use Rattle.am_http.specs.declared.routes.Call.{Call}
use Rattle.am_http.specs.declared.routes.Call.TheVariants.{List as ListCall, Get, Post, Delete}

-- the path of a target: the part before the first `?` (RFC 3986, section 3)
abbrev pub path_of : List ℕ → List ℕ
path_of target = before_first (λ b. b == 63) target

-- the query of a target: the part behind the first `?`
abbrev pub query_of : List ℕ → List ℕ
query_of target = after_first (λ b. b == 63) target

-- the path of all silences
abbrev pub silences_path : List ℕ
silences_path = codes "/api/v2/silences"

-- the path is that of the silence with this identifier, which isn't empty and has no `/`
pub record IsPathOf (path id : List ℕ) : Type 0 where
  pub spelled : path ≡ codes "/api/v2/silence/" ++ id
  pub some : 0 < length id
  pub one : ¬ (Contains id 47)

-- the call that a request with this method and target asks for; or its path names nothing, or doesn't have this method
abbrev pub IsCallOf : List ℕ → List ℕ → Result Call Cause → Type 0
IsCallOf method target (Ok (ListCall query)) = (path_of target ≡ silences_path) × (method ≡ codes "GET") × (query.now ≡ query_of target)
IsCallOf method target (Ok Post) = (path_of target ≡ silences_path) × (method ≡ codes "POST")
IsCallOf method target (Ok (Get id)) = IsPathOf (path_of target) id.now × (method ≡ codes "GET")
IsCallOf method target (Ok (Delete id)) = IsPathOf (path_of target) id.now × (method ≡ codes "DELETE")
IsCallOf method target (Err NoSuchPath) = (path_of target ≢ silences_path) × ((id : List ℕ) → ¬ (IsPathOf (path_of target) id))
IsCallOf method target (Err (MethodNotAllowed Silences)) =
    (path_of target ≡ silences_path) × (method ≢ codes "GET") × (method ≢ codes "POST")
IsCallOf method target (Err (MethodNotAllowed Silence)) =
    ((id : List ℕ) × IsPathOf (path_of target) id) × (method ≢ codes "GET") × (method ≢ codes "DELETE")
IsCallOf method target (Err _) = ⊥
