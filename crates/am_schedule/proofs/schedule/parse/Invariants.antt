use Rattle.std.proofs.Common.{length}
use Rattle.am_schedule.proofs.Runs.{IsReading}
use Rattle.am_schedule.proofs.schedule.parse.Given as goal

abbrev pub invariant-lines : goal.invariant-lines
invariant-lines l = IsReading l.text l.rest l.number l.reader

abbrev pub decreases-lines : goal.decreases-lines
decreases-lines l = length l.rest
