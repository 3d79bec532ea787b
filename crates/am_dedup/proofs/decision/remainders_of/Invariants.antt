use Rattle.std.proofs.Common.{◌≡◌, ℕ, ◌<◌, ◌%◌, false, get_or, length, nat_eq}
use Rattle.am_dedup.proofs.decision.remainders_of.Given as goal

abbrev pub invariant-loop-place : goal.invariant-loop-place
invariant-loop-place l = (length l.met ≡ 32768) × ((i : ℕ) → i < l.place → nat_eq (get_or l.met (get_or l.hashes i 0 % 32768) 0) 0 ≡ false)
