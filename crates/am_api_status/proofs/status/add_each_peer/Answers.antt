use Rattle.std.proofs.Common.{arith}
use Rattle.am_api_status.specs.Statuses.{peer_data}
use Rattle.am_api_status.proofs.Adding.{row_more}
use Rattle.am_api_status.proofs.status.add_each_peer.Goals as goal

pub loop-peer-preserved : goal.loop-peer-preserved
loop-peer-preserved c =
    row_more peer_data _ _ c.peer-item.result (omega arith) c.peer-item.is c.loop-peer.invariant c.in_ok-add_peer.ensures
