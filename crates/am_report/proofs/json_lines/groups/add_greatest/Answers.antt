use Rattle.am_silence_json.proofs.Bodies.{chain}
use Rattle.am_report.specs.Json.Groups.{greatest_data}
use Rattle.am_report.proofs.json_lines.groups.add_greatest.Goals as goal

pub returns : goal.returns
unfolding greatest_data
returns g c =
    chain c.in_ok-add.ensures (chain c.in_ok-add_sources.ensures (chain c.in_ok-add_text.ensures (chain c.in_ok-add_version.ensures c.in_ok-add-2.ensures)))
