use Rattle.std.proofs.Common.{map}
use Rattle.am_report.specs.Sources.{holding_of}
use Rattle.am_report.proofs.Grouped.{groups_added}
use Rattle.am_report.specs.Less.{less_word}
use Rattle.am_report.proofs.json_lines.difference.add_groups.Goals as goal

pub returns : goal.returns
returns g c =
    groups_added g.V.Version.seen (map holding_of c.args.sides.now) c.args.greatest.now g.V.InJson.named (g.V.InJson.value c.args.now) (less_word g.V.Version.seen g.V.WithUnknown.unknown_of g.V.WithUnknown.known_of)
    c.requires c.in_ok-add_greatest.ensures c.in_ok-add_others.ensures c.in_ok-add_missing.ensures
