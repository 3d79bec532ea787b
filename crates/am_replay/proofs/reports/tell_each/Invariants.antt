use Rattle.std.proofs.Common.{string_bytes}
use Rattle.am_replay.proofs.Reported.{HasTold}
use Rattle.am_replay.proofs.reports.tell_each.Given as goal

abbrev pub invariant-loop-place : goal.invariant-loop-place
invariant-loop-place l = HasTold l.cluster l.names l.place (string_bytes l.fn.out) (string_bytes l.out)
