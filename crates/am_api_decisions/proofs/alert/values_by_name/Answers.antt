use Rattle.std.proofs.Common.{arith}
use Rattle.am_api_decisions.proofs.Pairs.{label_more}
use Rattle.am_api_decisions.proofs.alert.values_by_name.Goals as goal

pub loop-label-preserved : goal.loop-label-preserved
loop-label-preserved c =
    label_more c.loop-label.values.entries c.insert.new.self.entries c.as_str.result c.as_str-in-loop-label.result c.args.labels.now c.loop-label.label-index
    c.label-item.result (omega arith) c.label-item.is c.as_str.ensures.bytes c.as_str-in-loop-label.ensures.bytes c.in_ok-insert.ensures.entries
    c.loop-label.invariant
