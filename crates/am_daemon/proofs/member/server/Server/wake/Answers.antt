use Rattle.std.proofs.Common.{None, refl}
use Rattle.am_daemon.specs.Offers.{for_peers}
use Rattle.am_daemon.proofs.Acting.{counts_same, woken_by, woken_made}
use Rattle.am_daemon.proofs.member.server.Server.wake.Goals as goal

pub returns-then-self-clause-sent : goal.returns-then-self-clause-sent
returns-then-self-clause-sent g c = woken_by None _ _ _ _ _ _ (for_peers g.U.Backend.outbound g.U.Backend.sealed_by c.do_duties.new.self.state)
    (for_peers g.U.Backend.outbound g.U.Backend.sealed_by c.do_duties.new.self.state) _ c.do_duties.ensures.disk c.do_duties.ensures.tick c.do_duties.ensures.peers
    (refl, refl) (counts_same (for_peers g.U.Backend.outbound g.U.Backend.sealed_by c.do_duties.new.self.state) _ c.give_up_first_pull.ensures)

pub returns-then-self-clause-steps : goal.returns-then-self-clause-steps
returns-then-self-clause-steps g c = woken_made _ _ _ _ _ (returns-then-self-clause-sent g c)

pub returns-clause-sent : goal.returns-clause-sent
returns-clause-sent g c = woken_by c.gossip-gossip.ensures.0 _ _ _ _ _ _ (for_peers g.U.Backend.outbound g.U.Backend.sealed_by c.do_duties.new.self.state)
    (for_peers g.U.Backend.outbound g.U.Backend.sealed_by c.gossip-gossip.new.self.state) _ c.do_duties.ensures.disk c.do_duties.ensures.tick c.do_duties.ensures.peers
    c.gossip-gossip.ensures.1 c.left.ensures

pub returns-clause-steps : goal.returns-clause-steps
returns-clause-steps g c = woken_made _ _ _ _ _ (returns-clause-sent g c)
