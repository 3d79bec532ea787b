use Rattle.std.proofs.Common.{map}
use Rattle.std.specs.Option.{option_copied}
use Rattle.serde_json.specs.Data.{string}
use Rattle.am_report.specs.Sources.{holding_of}
use Rattle.am_report.specs.ReportLine.{holders}
use Rattle.am_silence_json.proofs.Bodies.{chain, list_is}
use Rattle.am_report.proofs.json_lines.sources.add_sources.Goals as goal

pub returns : goal.returns
returns g c =
    chain c.in_ok-add.ensures
    (list_is _ _ _ _ (map string (holders g.V.Version.seen (option_copied c.args.here) (map holding_of c.args.sides.now)))
    c.in_ok-add-2.ensures c.in_ok-add_holders.ensures c.in_ok-add-3.ensures)
