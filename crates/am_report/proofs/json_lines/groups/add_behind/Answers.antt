use Rattle.am_silence_json.proofs.Bodies.{chain}
use Rattle.am_report.specs.Json.Groups.{behind_data}
use Rattle.am_report.proofs.json_lines.groups.add_behind.Goals as goal

pub returns : goal.returns
unfolding behind_data
returns g c =
    let by = rw (c.as_str.ensures.value, c.in_ok-by.ensures) at c.in_ok-add_text-2.ensures in
    chain c.in_ok-add.ensures
    (chain c.in_ok-add_sources.ensures (chain c.in_ok-add_text.ensures (chain by (chain c.in_ok-add_version.ensures c.in_ok-add-2.ensures))))
