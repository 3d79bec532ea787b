use Rattle.std.proofs.Common.{map}
use Rattle.am_silence_json.specs.Gettables.{matcher_data}
use Rattle.am_silence_json.proofs.Bodies.{chain, list_is}
use Rattle.am_silence_json.proofs.gettable.add_matchers.Goals as goal

pub returns : goal.returns
returns c =
    chain c.in_ok-add.ensures
    (list_is _ _ _ _ (map matcher_data c.args.matchers) c.in_ok-add-2.ensures c.in_ok-add_each_matcher.ensures c.in_ok-add-3.ensures)
