use Rattle.std.proofs.Common.{map}
use Rattle.am_silence_json.proofs.Bodies.{chain, list_is}
use Rattle.am_api_decisions.specs.Answers.{muted_data}
use Rattle.am_api_decisions.proofs.writing.add_all_muted.Goals as goal

pub returns : goal.returns
returns c =
    chain c.in_ok-add.ensures
    (list_is _ _ _ _ (map muted_data c.args.alerts.now) c.in_ok-add-2.ensures c.in_ok-add_each_muted.ensures c.in_ok-add-3.ensures)
