-- The reading of bytes, by the progress of the request.
use Rattle.std.proofs.Common.{◌≡◌, ℕ, List, Bool, ◌∙◌}
use Rattle.am_http.specs.Requests.{IsRequestIn, IsTakenFrom, IsReadOf}
use Rattle.am_http.specs.declared.cause.Cause.TheVariants.{Memory}
use Rattle.am_http.specs.declared.request.Read.{Read}
use Rattle.am_http.specs.declared.request.Read.TheVariants.{More, Whole, Refused}

same_parts : (bytes method target body m t b : List ℕ) → m ≡ method → t ≡ target → b ≡ body → IsRequestIn bytes method target body → IsRequestIn bytes m t b
same_parts bytes method target body m t b e f g is =
    record { head = is.head; has_head = is.has_head; method_is = e ∙ is.method_is; target_is = f ∙ is.target_is; count = is.count; names = is.names; whole = is.whole; body_is = g ∙ is.body_is }

pub read_taken : (bytes method target body : List ℕ) (ended : Bool) (read : Read) → IsRequestIn bytes method target body → IsTakenFrom method target body read → IsReadOf bytes ended read
read_taken bytes method target body ended (Whole request) is from = same_parts bytes method target body _ _ _ from.0 from.1 from.2 is
read_taken bytes method target body ended (Refused refusal) is from = (Memory, from, (method, target, body, is))
read_taken bytes method target body ended More is from = absurd from
