use Rattle.std.proofs.Common.{◌<◌, List, ap, arith, length, refl, true}
use Rattle.am_daemon.specs.Offers.{ForPeers, PutBy, for_peers}
use Rattle.am_daemon.proofs.Offers.{put_by_changed}
use Rattle.am_daemon.proofs.member.server_state.ServerState.note_link.Goals as goal

pub returns-in-Some : goal.returns-in-Some
returns-in-Some g c =
    let within : c.args.peer < length c.args.self.now.pending_frames.items = omega (arith, c.in-Some.ensures.variant.0 refl, c.args.self.now.pending_frames.ok.0) in
    let held : ForPeers = for_peers g.U.Backend.outbound g.U.Backend.sealed_by c.args.self.now in
    ap (λ (l : List PutBy). record held { put_by = l })
    (put_by_changed c.args.self.now.pending_frames.items c.args.peer c.in-Some.pending.now c.open.new.self within c.in-Some.ensures.value (λ it. record it { is_open = true }) c.open.ensures.opened)
