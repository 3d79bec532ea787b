-- The table of statuses: the line for each cause of a refusal.
use Rattle.std.specs.Prelude.{ℕ, List, Bool, false, Option, Some, None, codes}
use Rattle.std.specs.Option.{option_copied}
use Rattle.std.specs.Str.{bytes_eq}
use Rattle.am_silence_json.specs.declared.key.JsonKey.{JsonKey}
use Rattle.am_silence_json.specs.declared.key.JsonKey.TheVariants.{Id, Matchers, StartsAt, EndsAt, CreatedBy, Comment}
use Rattle.am_http.specs.declared.cause.Cause.{Cause}
use Rattle.am_http.specs.declared.cause.Cause.TheVariants.{HeadTooLarge, BadHead, TransferEncoding, BadContentLength}
use Rattle.am_http.specs.declared.cause.Cause.TheVariants.{BodyTooLarge, EndedEarly, NoSuchPath, MethodNotAllowed}
use Rattle.am_http.specs.declared.cause.Cause.TheVariants.{BadFilter, BadJson, BadSilence, Memory}
use Rattle.am_http.specs.declared.refusal.Refusal.{Refusal}
use Rattle.am_http.specs.declared.cause.Resource.{Resource}
use Rattle.am_http.specs.declared.cause.Resource.TheVariants.{Silences, Silence}

-- a status, a text, the available methods if another was asked for, and whether the reply has its head alone
pub record RefusalLine : Type 0 where
  pub status : ℕ
  pub text : List ℕ
  pub allow : Option (List ℕ)
  pub bare : Bool

-- the line of a refusal, regardless of where its texts lie in memory
abbrev pub line_seen : Refusal → RefusalLine
line_seen refusal = record {
  status = refusal.status;
  text = refusal.text.now;
  allow = option_copied refusal.allow;
  bare = refusal.is_bare;
}

-- the method is HEAD, which is answered with the head of a reply alone (RFC 9110, section 9.3.2)
abbrev pub is_head : List ℕ → Bool
is_head method = bytes_eq method (codes "HEAD")

-- a line as it is told to a request with this method
abbrev pub told_to : List ℕ → RefusalLine → RefusalLine
told_to method said = record said { bare = is_head method }

-- a line without methods
abbrev pub line : ℕ → List ℕ → RefusalLine
line status text = record { status = status; text = text; allow = None; bare = false }

-- the methods of the resource that a path names
abbrev pub allowed_at : Resource → List ℕ
allowed_at Silences = codes "GET, POST"
allowed_at Silence = codes "GET, DELETE"

-- the text for a key that is missing or wrong
abbrev pub bad_key : JsonKey → List ℕ
bad_key Id = codes "bad silence: id"
bad_key Matchers = codes "bad silence: matchers"
bad_key StartsAt = codes "bad silence: startsAt"
bad_key EndsAt = codes "bad silence: endsAt"
bad_key CreatedBy = codes "bad silence: createdBy"
bad_key Comment = codes "bad silence: comment"

-- the table, in the order in which its lines are tested (status codes of RFC 9110, section 15, and RFC 6585)
abbrev pub line_of : Cause → RefusalLine
line_of HeadTooLarge = line 431 (codes "head too large")
line_of BadHead = line 400 (codes "bad request head")
line_of TransferEncoding = line 501 (codes "transfer-encoding not supported")
line_of BadContentLength = line 400 (codes "bad content-length")
line_of BodyTooLarge = line 413 (codes "body too large")
line_of EndedEarly = line 400 (codes "request ended early")
line_of NoSuchPath = line 404 (codes "no such path")
line_of (MethodNotAllowed resource) =
    record { status = 405; text = codes "method not allowed"; allow = Some (allowed_at resource); bare = false }
line_of BadFilter = line 400 (codes "bad filter")
line_of BadJson = line 400 (codes "bad JSON")
line_of (BadSilence key) = line 400 (bad_key key)
line_of Memory = line 500 (codes "out of memory")
