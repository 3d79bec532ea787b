use Rattle.std.proofs.Common.{map}
use Rattle.serde_json.specs.Data.{string}
use Rattle.am_silence_json.proofs.Bodies.{chain, list_is}
use Rattle.am_api_decisions.proofs.writing.add_ids.Goals as goal

pub returns : goal.returns
returns c =
    chain c.in_ok-add.ensures
    (list_is _ _ _ _ (map string c.args.ids.now) c.in_ok-add-2.ensures c.in_ok-add_each_id.ensures c.in_ok-add-3.ensures)
