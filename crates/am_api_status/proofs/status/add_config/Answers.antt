use Rattle.am_silence_json.proofs.Bodies.{chain}
use Rattle.am_api_status.proofs.status.add_config.Goals as goal

pub returns : goal.returns
returns c = chain c.in_ok-add.ensures (chain c.in_ok-add-2.ensures (chain c.in_ok-add_text.ensures c.in_ok-add-3.ensures))
