use Rattle.std.proofs.Common.{arith}
use Rattle.am_matcher.proofs.Named.{values_more}
use Rattle.am_matcher.proofs.labels.values_of.Goals as goal

pub loop-label-preserved : goal.loop-label-preserved
loop-label-preserved c =
    values_more c.args.labels.now c.loop-label.label-index c.label-item.result c.as_str.result c.as_str-in-loop-label.result c.loop-label.values c.insert.new.self
    (omega arith) c.label-item.is c.as_str.ensures.bytes c.as_str-in-loop-label.ensures.bytes c.in_ok-insert.ensures.updates c.loop-label.invariant
