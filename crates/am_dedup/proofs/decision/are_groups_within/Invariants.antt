use Rattle.std.proofs.Common.{◌≡◌, length}
use Rattle.std.specs.FinSet.{is_subset}
use Rattle.am_dedup.specs.Decisions.{set_of}
use Rattle.am_dedup.proofs.decision.are_groups_within.Given as goal

abbrev pub invariant-loop-rest : goal.invariant-loop-rest
invariant-loop-rest l = is_subset (set_of l.hashes) (set_of l.listed) ≡ is_subset (set_of l.rest) (set_of l.listed)

abbrev pub decreases-loop-rest : goal.decreases-loop-rest
decreases-loop-rest l = length l.rest
