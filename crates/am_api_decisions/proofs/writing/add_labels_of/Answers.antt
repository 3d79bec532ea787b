use Rattle.am_silence_json.proofs.Bodies.{chain}
use Rattle.am_api_decisions.proofs.writing.add_labels_of.Goals as goal

pub returns : goal.returns
returns c = chain c.in_ok-add.ensures c.in_ok-add_labels.ensures
