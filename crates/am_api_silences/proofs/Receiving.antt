-- A request that comes piece by piece.
use Rattle.std.proofs.Common.{◌≡◌, ℕ, ◌+◌, ◌<◌, ◌≤◌, true, false, List, ◌++◌, length, length-append, Option, Ok, Err, ◌∙◌, refl, sym, ap, subst, arith, inl, inr}
use Rattle.std.proofs.KnownBytes.{Consumes-trans}
use Rattle.std.proofs.lemmas.Bool.{false≢true}
use Rattle.std.specs.Io.KnownBytes.{Consumes, IsAtEnd}
use Rattle.am_wire.specs.InputReading.{HasGrown, ReadsOnce}
use Rattle.am_wire.specs.declared.input.Stop.TheVariants as stop
use Rattle.am_http.proofs.HeadLemmas.{head_small}
use Rattle.am_http.specs.Lines.{line_seen, line_of}
use Rattle.am_http.specs.Requests.{IsReadOf, IsUnfinished}
use Rattle.am_http.specs.declared.cause.Cause.TheVariants.{Memory}
use Rattle.am_http.specs.declared.refusal.Refusal.{Refusal}
use Rattle.am_http.specs.declared.request.Read.{Read}
use Rattle.am_http.specs.declared.request.Read.TheVariants.{More, Whole, Refused}
use Rattle.am_api_silences.specs.Serving.{IsJustRead, IsReadBy, StopsReading}

-- bytes that decide nothing have room for more
pub unfinished_small : (bytes : List ℕ) → IsUnfinished bytes → length bytes < 1064960
unfinished_small bytes (inl head) = omega (arith, head.0)
unfinished_small bytes (inr body) =
    let wanting = body.1 in
    let small = head_small bytes wanting.head wanting.has_head in
    omega (arith, small, wanting.end_is, wanting.wanting, wanting.names.small)

-- what came before, and what came then
pub grown : (a b c : Option (List ℕ)) (before after : List ℕ) → Consumes a b before → HasGrown b c before after → Consumes a c after
grown a b c before after came more = subst (λ (l : List ℕ). Consumes a c l) (sym more.appended) (Consumes-trans a b c before more.piece came more.consumed)

-- a piece came behind bytes that decide nothing
pub just : (a b : Option (List ℕ)) (before after : List ℕ) → IsUnfinished before → HasGrown a b before after → length after ≤ length before + 4096 → IsJustRead after
just a b before after wanting more short =
    let size = ap length more.appended ∙ length-append before more.piece in
    inr (before, more.piece, more.appended, omega (arith, size, short), wanting)

-- the bytes are decided
pub decided : (input left : Option (List ℕ)) (bytes : List ℕ) (read : Read) → Consumes input left bytes → IsJustRead bytes → IsReadOf bytes false read → (read ≡ More → ⊥) → IsReadBy input left (Ok read)
decided input left bytes More consumed last is not = absurd (not refl)
decided input left bytes (Whole request) consumed last is not =
    record { came = bytes; consumed = consumed; just = last; ended = false; at_end = λ e. absurd (false≢true e); answer = inl is }
decided input left bytes (Refused refusal) consumed last is not =
    record { came = bytes; consumed = consumed; just = last; ended = false; at_end = λ e. absurd (false≢true e); answer = inl is }

-- the input ended in them
pub ended : (input left : Option (List ℕ)) (bytes : List ℕ) (read : Read) → Consumes input left bytes → IsJustRead bytes → IsAtEnd left → IsReadOf bytes true read → IsReadBy input left (Ok read)
ended input left bytes More consumed last end is = (subst (λ (b : List ℕ). Consumes input left b) (is.1 refl) consumed, end)
ended input left bytes (Whole request) consumed last end is =
    record { came = bytes; consumed = consumed; just = last; ended = true; at_end = λ _. end; answer = inl is }
ended input left bytes (Refused refusal) consumed last end is =
    record { came = bytes; consumed = consumed; just = last; ended = true; at_end = λ _. end; answer = inl is }

-- there was no memory for the last piece
pub lost : (input mid left : Option (List ℕ)) (before after : List ℕ) (most : ℕ) (refusal : Refusal) → Consumes input mid before → IsUnfinished before → ReadsOnce most mid left before after (Err stop.Memory)
    → line_seen refusal ≡ line_of Memory → IsReadBy input left (Ok (Refused refusal))
lost input mid left before after most refusal consumed wanting once line = record {
  came = after ++ once.0;
  consumed = grown input mid left before (after ++ once.0) consumed once.1;
  just = just mid left before (after ++ once.0) wanting once.1 once.4;
  ended = false;
  at_end = λ e. absurd (false≢true e);
  answer = inr line;
}

-- a read failed
pub failed : (input mid left : Option (List ℕ)) (before after : List ℕ) (most at : ℕ) → Consumes input mid before → IsUnfinished before → ReadsOnce most mid left before after (Err stop.Read)
    → at ≡ length after → StopsReading input left at
failed input mid left before after most at consumed wanting once count = record {
  came = after;
  consumed = grown input mid left before after consumed once.0;
  count = count;
  undecided = subst IsUnfinished (sym once.1) wanting;
}
