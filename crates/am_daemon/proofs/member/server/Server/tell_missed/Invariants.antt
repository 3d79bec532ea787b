use Rattle.std.proofs.Common.{◌≡◌}
use Rattle.am_daemon.specs.Sending.{outlets}
use Rattle.am_daemon.proofs.member.server.Server.tell_missed.Given as goal

-- nothing is passed on
abbrev pub invariant-loop-place : goal.invariant-loop-place
invariant-loop-place g l = outlets g.U.Backend.store_of g.U.Backend.outbound l.self.state ≡ outlets g.U.Backend.store_of g.U.Backend.outbound l.fn.self.state
