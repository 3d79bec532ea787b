use Rattle.am_silence_json.proofs.Bodies.{chain}
use Rattle.am_api_status.specs.Statuses.{status_data}
use Rattle.am_api_status.proofs.status.add_member_status.Goals as goal

pub returns : goal.returns
unfolding status_data
returns c =
    let config = rw c.as_str.ensures.bytes at c.in_ok-add_config.ensures in
    let neighbors = rw c.as_slice.ensures.value at c.in_ok-add_neighbors.ensures in
    chain c.in_ok-add.ensures (chain neighbors (chain c.in_ok-add_cluster.ensures (chain config (chain c.in_ok-add_text.ensures (
    chain c.in_ok-add_versions.ensures c.in_ok-add-2.ensures)))))
