use Rattle.am_silence_json.proofs.Bodies.{chain}
use Rattle.am_report.specs.Json.Values.{log_key_data}
use Rattle.am_report.proofs.json_lines.entry.add_log_key.Goals as goal

pub returns : goal.returns
unfolding log_key_data
returns c = chain c.in_ok-add.ensures (chain c.in_ok-add_key_members.ensures c.in_ok-add-2.ensures)
