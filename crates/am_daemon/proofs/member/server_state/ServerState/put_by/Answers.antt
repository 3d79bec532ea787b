use Rattle.std.proofs.Common.{◌∙◌, ◌<◌, List, ap, arith, inl, length, refl}
use Rattle.am_daemon.specs.Offers.{ForPeers, PutBy, for_peers, put_behind}
use Rattle.am_daemon.proofs.Offers.{is_put_by, put_by_changed, put_by_kept, put_by_there}
use Rattle.am_daemon.proofs.member.server_state.ServerState.put_by.Goals as goal

pub returns-in-Ok : goal.returns-in-Ok
returns-in-Ok g c =
    let within : c.args.peer < length c.args.self.now.pending_frames.items = omega (arith, c.in-Some.ensures.variant.0 refl, c.args.self.now.pending_frames.ok.0) in
    is_put_by (for_peers g.U.Backend.outbound g.U.Backend.sealed_by c.args.self.now) c.args.peer c.args.frames.items c.in-Ok.opens c.in-Some.pending.now.is_open _
    (ap (λ (it : PutBy). it.is_open) (put_by_there c.args.self.now.pending_frames.items c.args.peer c.in-Some.pending.now c.add.new.self within c.in-Some.ensures.value)) c.in-Ok.ensures.0
    (put_by_changed c.args.self.now.pending_frames.items c.args.peer c.in-Some.pending.now c.add.new.self within c.in-Some.ensures.value (put_behind c.args.frames.items) c.in-Ok.ensures.1)

pub returns-in-Err : goal.returns-in-Err
returns-in-Err g c =
    let within : c.args.peer < length c.args.self.now.pending_frames.items = omega (arith, c.in-Some.ensures.variant.0 refl, c.args.self.now.pending_frames.ok.0) in
    let held : ForPeers = for_peers g.U.Backend.outbound g.U.Backend.sealed_by c.args.self.now in
    inl (c.drop_frames.ensures ∙ ap (λ (l : List PutBy). record held { put_by = l })
    (put_by_kept c.args.self.now.pending_frames.items c.args.peer c.in-Some.pending.now c.add.new.self within c.in-Some.ensures.value c.in-Err.ensures))
