use Rattle.std.proofs.Common.{◌≡◌, ℕ, true}
use Rattle.am_dedup.proofs.Sets.{is_among}
use Rattle.am_dedup.proofs.decision.skip_past.Given as goal

abbrev pub invariant-loop-other : goal.invariant-loop-other
invariant-loop-other l =
    (goal.iterator-loop-other).can_next l.rest
    × (goal.iterator-loop-other).is_finite l.rest
    × (is_among l.fn.rest l.hash ≡ is_among l.rest l.hash)
    × ((other : ℕ) → is_among l.rest other ≡ true → is_among l.fn.rest other ≡ true)
