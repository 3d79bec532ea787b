use Rattle.std.proofs.Common.{arith}
use Rattle.am_api_decisions.proofs.Adding.{row_more}
use Rattle.am_api_decisions.specs.Recent.{alert_data}
use Rattle.am_api_decisions.proofs.recent.add_each_alert.Goals as goal

pub loop-alert-preserved : goal.loop-alert-preserved
loop-alert-preserved c =
    let added = rw c.as_slice.ensures at c.in_ok-add_labels.ensures in
    row_more alert_data _ _ c.alert-item.result (omega arith) c.alert-item.is c.loop-alert.invariant added
