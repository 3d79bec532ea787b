use Rattle.std.proofs.Common.{length}
use Rattle.am_daemon.specs.Offers.{GivesNone, for_peers}
use Rattle.am_daemon.proofs.member.server.Server.next_outgoing.Given as goal

-- nothing is given so far
abbrev pub invariant-loop-self : goal.invariant-loop-self
invariant-loop-self g l = GivesNone (for_peers g.U.Backend.outbound g.U.Backend.sealed_by l.fn.self.state) (for_peers g.U.Backend.outbound g.U.Backend.sealed_by l.self.state)

abbrev pub decreases-loop-self : goal.decreases-loop-self
decreases-loop-self g l = length (g.U.Backend.outbound l.self.state.backend).frames
