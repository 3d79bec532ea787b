use Rattle.std.proofs.Common.{◌+◌, ◌≤◌, length}
use Rattle.am_cluster.specs.Settling.{HasBacks}
use Rattle.am_cluster.proofs.Admitted.{late_among}
use Rattle.am_cluster.proofs.settle.mark_late.Given as goal

abbrev pub invariant-loop-place : goal.invariant-loop-place
invariant-loop-place l = HasBacks l.fn.journal (late_among l.members l.now l.place) l.now l.line l.journal × (length l.members ≤ l.journal.room + l.place)
