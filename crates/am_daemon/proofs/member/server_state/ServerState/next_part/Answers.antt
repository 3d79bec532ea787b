use Rattle.std.proofs.Common.{◌<◌, arith, length, refl, sym}
use Rattle.am_daemon.proofs.Offers.{frame_alone, part_among}
use Rattle.am_daemon.proofs.member.server_state.ServerState.next_part.Goals as goal

pub returns-clause-part : goal.returns-clause-part
returns-clause-part g c =
    let within : c.args.peer < length c.args.self.now.transfers.items = omega (arith, c.in_ok-transfer.ensures.variant.0 refl, c.args.self.now.transfers.ok.0) in (
      c.in_ok-part.part,
      frame_alone c.push.result c.new-frames.result.items c.push.new.self.items c.in_ok-part.part (sym c.if-is_err.ensures.value) c.new-frames.ensures.items c.push.ensures.items,
      part_among c.args.instance.now c.args.self.now.transfers.items c.args.peer c.in_ok-transfer.transfer.now _ c.in_ok-part.part within c.in_ok-transfer.ensures.value c.in_ok-part.ensures.part,
    )
