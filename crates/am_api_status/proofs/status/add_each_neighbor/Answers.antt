use Rattle.std.proofs.Common.{arith}
use Rattle.am_api_status.specs.Statuses.{neighbor_data}
use Rattle.am_api_status.proofs.Adding.{row_more}
use Rattle.am_api_status.proofs.status.add_each_neighbor.Goals as goal

pub loop-neighbor-preserved : goal.loop-neighbor-preserved
loop-neighbor-preserved c =
    row_more neighbor_data _ _ c.neighbor-item.result (omega arith) c.neighbor-item.is c.loop-neighbor.invariant c.in_ok-add_neighbor.ensures
