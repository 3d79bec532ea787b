use Rattle.std.proofs.Common.{arith}
use Rattle.serde_json.specs.Data.{string}
use Rattle.am_api_decisions.proofs.Adding.{row_more}
use Rattle.am_api_decisions.proofs.writing.add_each_id.Goals as goal

pub loop-id-preserved : goal.loop-id-preserved
loop-id-preserved c =
    let added = rw c.as_str.ensures.bytes at c.in_ok-add.ensures in
    row_more string _ _ c.id-item.result (omega arith) c.id-item.is c.loop-id.invariant added
