use Rattle.am_silence_json.specs.Tokens.{data_tokens}
use Rattle.am_silence_json.proofs.Bodies.{chain}
use Rattle.am_report.proofs.json_lines.groups.add_version.Goals as goal

pub returns : goal.returns
returns g c =
    let name = rw c.name.ensures at c.in_ok-add.ensures in
    chain {ys = data_tokens (g.V.InJson.value c.args.now c.args.version.now)} name c.in_ok-add_value.ensures
