use Rattle.std.proofs.Common.{arith}
use Rattle.am_api_decisions.specs.Answers.{muted_data}
use Rattle.am_api_decisions.proofs.Adding.{row_more}
use Rattle.am_api_decisions.proofs.writing.add_each_muted.Goals as goal

pub loop-muted-preserved : goal.loop-muted-preserved
loop-muted-preserved c =
    row_more muted_data _ _ c.muted-item.result (omega arith) c.muted-item.is c.loop-muted.invariant c.in_ok-add_muted.ensures
