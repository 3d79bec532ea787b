use Rattle.std.proofs.Common.{map}
use Rattle.std.specs.Option.{option_copied}
use Rattle.am_report.specs.Sources.{holding_of}
use Rattle.am_report.proofs.Grouped.{missing_added}
use Rattle.am_report.proofs.json_lines.groups.add_missing.Goals as goal

pub returns : goal.returns
returns g c =
    missing_added g.V.Version.seen (map holding_of c.args.sides.now) (option_copied c.nothing-nothing.result) c.is_held.result c.nothing-nothing.ensures
    c.is_held.ensures c.if-not-is_held.false c.in_ok-add.ensures c.in_ok-add_sources.ensures c.in_ok-add_text.ensures c.in_ok-add-2.ensures
