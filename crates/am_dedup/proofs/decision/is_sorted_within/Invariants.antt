use Rattle.std.proofs.Common.{◌≡◌, ℕ, ◌<◌, true, get_or}
use Rattle.am_dedup.proofs.Sets.{is_among}
use Rattle.am_dedup.proofs.decision.is_sorted_within.Given as goal

abbrev pub invariant-loop-place : goal.invariant-loop-place
invariant-loop-place l = (i : ℕ) → i < l.place → is_among l.listed (get_or l.sorted i 0) ≡ true
