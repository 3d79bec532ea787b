use Rattle.std.proofs.Common.{◌∷◌}
use Rattle.am_daemon.specs.Offers.{for_peers}
use Rattle.am_daemon.proofs.Offers.{passes_fewer}
use Rattle.am_daemon.proofs.member.server.Server.next_outgoing.Goals as goal

pub loop-self-smaller : goal.loop-self-smaller
loop-self-smaller g c = passes_fewer (for_peers g.U.Backend.outbound g.U.Backend.sealed_by c.loop-self.self.state) (for_peers g.U.Backend.outbound g.U.Backend.sealed_by c.hand_on.new.self.state)
    c.in_default.ensures (λ none. cc (c.loop-self-test.ensures.1 none))

pub loop-self-preserved : goal.loop-self-preserved
loop-self-preserved g c =
    (for_peers g.U.Backend.outbound g.U.Backend.sealed_by c.loop-self.self.state ∷ c.loop-self.invariant.0, (c.loop-self.invariant.1, c.in_default.ensures))
