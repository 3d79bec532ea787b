use Rattle.std.proofs.Common.{◌≡◌}
use Rattle.am_daemon.specs.Offers.{for_peers}
use Rattle.am_daemon.proofs.member.server.Server.report_withheld.Given as goal

-- what waits for peers stays
abbrev pub invariant-loop : goal.invariant-loop
invariant-loop g l = for_peers g.U.Backend.outbound g.U.Backend.sealed_by l.self.state ≡ for_peers g.U.Backend.outbound g.U.Backend.sealed_by l.fn.self.state
