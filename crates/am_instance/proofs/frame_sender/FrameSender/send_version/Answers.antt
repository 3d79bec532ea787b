use Rattle.am_instance.proofs.Sent.{along_more}
use Rattle.am_instance.specs.Sendings.{delta}
use Rattle.am_instance.proofs.frame_sender.FrameSender.send_version.Goals as goal

pub loop-place-preserved : goal.loop-place-preserved
loop-place-preserved c =
    along_more c.loop-place.place c.args.route.own c.args.route.origin (delta c.args.key c.args.content.now) _ _ _ c.loop-place.invariant c.send_along.ensures
