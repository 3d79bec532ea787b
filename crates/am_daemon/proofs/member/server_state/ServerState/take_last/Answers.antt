use Rattle.std.proofs.Common.{Some, ap, refl}
use Rattle.am_backend.specs.CommitStates.{disk_of}
use Rattle.am_daemon.specs.Offers.{for_peers}
use Rattle.am_daemon.specs.Sending.{Outlets}
use Rattle.am_daemon.proofs.Acting.{frame_on, sent_between}
use Rattle.am_daemon.proofs.member.server_state.ServerState.take_last.Goals as goal

pub returns-in-Some : goal.returns-in-Some
returns-in-Some g c = rw c.in-Some.is (sent_between (Some (c.args.place, c.in-Some.frame)) _ _ _ _ _ _ _ _
    (ap (λ (o : Outlets). disk_of o.store.commit_state) c.end_first_pull.ensures.stays) c.end_first_pull.ensures.peers refl
    (frame_on c.args.place c.in-Some.frame _ _ _ (for_peers g.U.Backend.outbound g.U.Backend.sealed_by c.end_first_pull.new.self) _ _ c.take_from.ensures.lock c.take_from.ensures.sent))
