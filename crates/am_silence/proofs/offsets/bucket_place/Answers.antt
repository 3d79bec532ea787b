use Rattle.std.proofs.Common.{◌≡◌, ℕ, ◌+◌, ◌<◌, List, ◌++◌, length, inr, sym, subst, ap, arith}
use Rattle.am_wire.specs.Offsets.{Follows}
use Rattle.am_wire.proofs.Offsets.{follows_past}
use Rattle.am_silence.specs.declared.matcher.Matcher.{Matcher}
use Rattle.am_silence.specs.MatcherTexts.{writes_matchers}
use Rattle.am_silence.specs.Mesh.{bucket_of}
use Rattle.am_silence.proofs.offsets.bucket_place.Goals as goal

pub overflow_add-result : goal.overflow_add-result
overflow_add-result c =
    let h : Follows c.in-Some.offset (bucket_of c.lent.result) (writes_matchers c.lent.result) = c.in-Some.ensures.1 in
    omega (arith, h.within, ap (λ (ms : List Matcher). length (writes_matchers ms)) c.lent.ensures, c.requires)

pub returns-in-Some : goal.returns-in-Some
returns-in-Some c = λ front at.
    let offset = c.in-Some.offset in
    let ms = c.args.matchers.now in
    let h : (0 < offset) × Follows offset (bucket_of ms) (writes_matchers ms) =
    subst (λ (xs : List Matcher). (0 < offset) × Follows offset (bucket_of xs) (writes_matchers xs)) c.lent.ensures c.in-Some.ensures in
    let place : c.args.start + offset ≡ length front + offset = ap (λ (n : ℕ). n + offset) (sym at) in
    inr (omega (arith, h.0), subst (λ (start : ℕ). Follows start (bucket_of ms) (front ++ writes_matchers ms)) (sym place) (follows_past front h.1))
