-- The calls by which a member is asked about itself, and the one that a request makes.
use Rattle.std.specs.Prelude.{◌≡◌, ◌≢◌, ℕ, Bool, true, false, List, codes, Option, Some, None, Result, Ok, Err}
use Rattle.am_http.specs.Lines.{RefusalLine, line_seen}
use Rattle.am_http.specs.declared.refusal.Refusal.{Refusal}
use Rattle.am_api_status.specs.declared.routes.StatusCall.{StatusCall}
use Rattle.am_api_status.specs.declared.routes.StatusResource.{StatusResource}
use Rattle.am_api_status.specs.declared.routes.StatusResource.TheVariants.{Page, Healthy, Ready, Status, Receivers, Metrics}

-- the path of a resource: /-/healthy and /-/ready as Prometheus' servers have them, the others as in API v2
abbrev pub path_at : StatusResource → List ℕ
path_at Page = codes "/"
path_at Healthy = codes "/-/healthy"
path_at Ready = codes "/-/ready"
path_at Status = codes "/api/v2/status"
path_at Receivers = codes "/api/v2/receivers"
path_at Metrics = codes "/metrics"

-- The path names none of these resources.
pub record IsOther (path : List ℕ) : Type 0 where
  pub no_page : path ≢ path_at Page
  pub no_health : path ≢ path_at Healthy
  pub no_readiness : path ≢ path_at Ready
  pub no_status : path ≢ path_at Status
  pub no_receivers : path ≢ path_at Receivers
  pub no_metrics : path ≢ path_at Metrics

-- The path names the resource, or none of these.
abbrev pub IsNamed : List ℕ → Option StatusResource → Type 0
IsNamed path (Some resource) = path ≡ path_at resource
IsNamed path None = IsOther path

-- the method of a call: HEAD if the reply has its head alone, else GET (RFC 9110, sections 9.3.1 and 9.3.2)
abbrev pub method_of : Bool → List ℕ
method_of true = codes "HEAD"
method_of false = codes "GET"

-- the line of the table for any other method
abbrev pub not_allowed_line : RefusalLine
not_allowed_line = record { status = 405; text = codes "method not allowed"; allow = Some (codes "GET, HEAD"); bare = false }

-- A request with this method makes the call on the resource, or its method is neither of the two.
abbrev pub IsCallOn : StatusResource → List ℕ → Result StatusCall Refusal → Type 0
IsCallOn resource method (Ok call) = (call.resource ≡ resource) × (method ≡ method_of call.is_bare)
IsCallOn resource method (Err refusal) =
    (method ≢ codes "GET") × (method ≢ codes "HEAD") × (line_seen refusal ≡ not_allowed_line)
