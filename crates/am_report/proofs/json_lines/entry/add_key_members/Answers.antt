use Rattle.am_silence_json.proofs.Bodies.{chain}
use Rattle.am_report.proofs.json_lines.entry.add_key_members.Goals as goal

pub returns : goal.returns
returns c = chain c.in_ok-add_group_key.ensures c.in_ok-add_receiver.ensures
