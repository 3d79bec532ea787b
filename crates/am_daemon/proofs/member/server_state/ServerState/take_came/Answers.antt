use Rattle.std.proofs.Common.{ap, refl}
use Rattle.am_backend.specs.CommitStates.{disk_of}
use Rattle.am_daemon.specs.Offers.{for_peers}
use Rattle.am_daemon.specs.Sending.{Outlets}
use Rattle.am_daemon.proofs.Acting.{frame_on, sent_between}
use Rattle.am_daemon.proofs.Comings.{last_came}
use Rattle.am_daemon.proofs.member.server_state.ServerState.take_came.Goals as goal

pub returns-in-Frame : goal.returns-in-Frame
returns-in-Frame g c = rw c.in-Frame.is (frame_on c.in-Frame.place c.in-Frame.frame _ _ _ (for_peers g.U.Backend.outbound g.U.Backend.sealed_by c.args.self.now) _ _
    c.take_from.ensures.lock c.take_from.ensures.sent)

pub returns-in-Whole : goal.returns-in-Whole
returns-in-Whole g c = rw c.in-Whole.is (last_came c.in-Whole.place c.in-Whole.frame c.in-Whole.lacked _ _ _ _ _ (sent_between _ _ _ _ _ _ _ _ _
    (ap (λ (o : Outlets). disk_of o.store.commit_state) c.note_exchange.ensures.stays) c.note_exchange.ensures.peers refl c.take_last.ensures))
