use Rattle.am_daemon.specs.Offers.{for_peers}
use Rattle.am_daemon.proofs.Offers.{closed_given}
use Rattle.am_daemon.proofs.member.server_state.ServerState.next_encoding.Goals as goal

pub returns-in-None-clause-given : goal.returns-in-None-clause-given
returns-in-None-clause-given g c = closed_given c.args.instance.now.config c.args.peer c.args.answer.now (for_peers g.U.Backend.outbound g.U.Backend.sealed_by c.args.self.now)
    (for_peers g.U.Backend.outbound g.U.Backend.sealed_by c.encoding_behind.new.self) (for_peers g.U.Backend.outbound g.U.Backend.sealed_by c.close_link.new.self)
    c.in-None.ensures.given.0 c.in-None.ensures.given.1 c.close_link.ensures
