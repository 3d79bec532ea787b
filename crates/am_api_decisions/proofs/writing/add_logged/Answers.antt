use Rattle.am_silence_json.proofs.Bodies.{chain}
use Rattle.am_api_decisions.proofs.writing.add_logged.Goals as goal

pub returns : goal.returns
returns c = chain c.in_ok-add.ensures (chain c.in_ok-add_truth.ensures c.in_ok-add-2.ensures)
