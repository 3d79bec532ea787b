use Rattle.am_cluster.proofs.Born.{born_more}
use Rattle.am_cluster.proofs.cluster.newborn_members.Goals as goal

pub loop-place-preserved : goal.loop-place-preserved
loop-place-preserved c =
    born_more c.args.config.now c.in_ok-own.own c.loop-place.place c.new.result c.loop-place.members.items c.push.new.self.items c.loop-place.invariant c.in_ok-own.ensures
    c.new.ensures.stand c.new.ensures.runs c.new.ensures.saved_silences c.new.ensures.saved_log c.in_ok-push.ensures.items
