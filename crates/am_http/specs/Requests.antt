-- Requests, by the bytes of them that have come.
use Rattle.std.specs.Prelude.{◌≡◌, ℕ, ◌+◌, ◌<◌, ◌≤◌, ◌⊎◌, Bool, List, [], length, take, drop, Err, IsTrue, string_bytes}
use Rattle.httparse.specs.Grammar.{RequestHead, print_request}
use Rattle.am_http.specs.Lines.{line_seen, line_of}
use Rattle.am_http.specs.Heads.{HasHead, IsOpenHead, HasLargeHead, HasBadHead, fields_of}
use Rattle.am_http.specs.Bodies.{NamesLength, IsBodyLength}
use Rattle.am_http.specs.declared.cause.Cause.{Cause}
use Rattle.am_http.specs.declared.cause.Cause.TheVariants.{HeadTooLarge, BadHead, TransferEncoding, BadContentLength}
use Rattle.am_http.specs.declared.cause.Cause.TheVariants.{BodyTooLarge, EndedEarly, Memory}
use Rattle.am_http.specs.declared.progress.RequestProgress.{RequestProgress}
use Rattle.am_http.specs.declared.progress.RequestProgress.TheVariants as at
use Rattle.am_http.specs.declared.request.Request.{Request}
use Rattle.am_http.specs.declared.request.Read.{Read}
use Rattle.am_http.specs.declared.request.Read.TheVariants.{More, Whole, Refused}

-- the bytes behind a head
abbrev pub behind : RequestHead → List ℕ → List ℕ
behind h bytes = drop (length (print_request h)) bytes

-- a whole request is at the front: a head, followed by as many bytes as its fields say
pub record IsRequestIn (bytes method target body : List ℕ) : Type 0 where
  pub head : RequestHead
  pub has_head : HasHead bytes head
  pub method_is : method ≡ head.method
  pub target_is : target ≡ head.target
  pub count : ℕ
  pub names : NamesLength (fields_of head) count
  pub whole : count ≤ length (behind head bytes)
  pub body_is : body ≡ take count (behind head bytes)

-- there is a head, and the body ends at the byte `end`, which hasn't come
pub record IsOpenBody (bytes : List ℕ) (end : ℕ) : Type 0 where
  pub head : RequestHead
  pub has_head : HasHead bytes head
  pub count : ℕ
  pub names : NamesLength (fields_of head) count
  pub end_is : end ≡ length (print_request head) + count
  pub wanting : length bytes < end

-- nothing is at fault, and bytes of the head or of the body are missing
abbrev pub IsUnfinished : List ℕ → Type 0
IsUnfinished bytes = ((length bytes < 16384) × IsOpenHead bytes) ⊎ ((end : ℕ) × IsOpenBody bytes end)

-- there is a head, and its fields that say where the body ends have this fault
abbrev pub HasBodyFault : List ℕ → Cause → Type 0
HasBodyFault bytes cause = (h : RequestHead) × HasHead bytes h × IsBodyLength (fields_of h) (Err cause)

-- the first fault of the bytes, whatever follows them
abbrev pub HasFault : List ℕ → Cause → Type 0
HasFault bytes HeadTooLarge = HasLargeHead bytes
HasFault bytes BadHead = HasBadHead bytes
HasFault bytes TransferEncoding = HasBodyFault bytes TransferEncoding
HasFault bytes BadContentLength = HasBodyFault bytes BadContentLength
HasFault bytes BodyTooLarge = HasBodyFault bytes BodyTooLarge
HasFault bytes _ = ⊥

-- this is the progress of the request
abbrev pub IsStandingOf : List ℕ → RequestProgress → Type 0
IsStandingOf bytes at.Head = (length bytes < 16384) × IsOpenHead bytes
IsStandingOf bytes (at.Body end) = IsOpenBody bytes end
IsStandingOf bytes (at.Whole parts) = IsRequestIn bytes parts.method.now parts.target.now parts.body.now
IsStandingOf bytes (at.Refused cause) = HasFault bytes cause

-- the request has these parts
abbrev pub IsWholeRequest : List ℕ → Request → Type 0
IsWholeRequest bytes request = IsRequestIn bytes (string_bytes request.method) (string_bytes request.target) request.body.items

-- the result is the request with these parts, or a refusal because memory ran out
abbrev pub IsTakenFrom : List ℕ → List ℕ → List ℕ → Read → Type 0
IsTakenFrom method target body (Whole request) =
    (string_bytes request.method ≡ method) × (string_bytes request.target ≡ target) × (request.body.items ≡ body)
IsTakenFrom method target body (Refused refusal) = line_seen refusal ≡ line_of Memory
IsTakenFrom method target body More = ⊥

-- Bytes are refused for their first fault, because the input ended in them, or because there was no memory for the request that
-- they are.
abbrev pub IsRefusedFor : List ℕ → Bool → Cause → Type 0
IsRefusedFor bytes ended EndedEarly = IsTrue ended × (0 < length bytes) × IsUnfinished bytes
IsRefusedFor bytes ended Memory = (method : List ℕ) × (target : List ℕ) × (body : List ℕ) × IsRequestIn bytes method target body
IsRefusedFor bytes ended cause = HasFault bytes cause

-- The result of reading bytes, after which the input ended or may go on: the whole request, the line of its first fault, or that
-- neither is decided.
abbrev pub IsReadOf : List ℕ → Bool → Read → Type 0
IsReadOf bytes ended More = IsUnfinished bytes × (IsTrue ended → bytes ≡ [])
IsReadOf bytes ended (Whole request) = IsWholeRequest bytes request
IsReadOf bytes ended (Refused refusal) = (cause : Cause) × (line_seen refusal ≡ line_of cause) × IsRefusedFor bytes ended cause
