use Rattle.std.proofs.Common.{map}
use Rattle.am_silence_json.proofs.Bodies.{chain, list_is}
use Rattle.am_api_status.specs.Statuses.{neighbor_data}
use Rattle.am_api_status.proofs.status.add_neighbors.Goals as goal

pub returns : goal.returns
returns c =
    chain c.in_ok-add.ensures
    (list_is _ _ _ _ (map neighbor_data c.args.neighbors.now) c.in_ok-add-2.ensures c.in_ok-add_each_neighbor.ensures c.in_ok-add-3.ensures)
