use Rattle.std.proofs.Common.{◌≡◌}
use Rattle.am_daemon.proofs.member.deciding.compile_on.Given as goal

abbrev pub invariant-loop : goal.invariant-loop
invariant-loop g l = l.instance ≡ l.fn.instance
