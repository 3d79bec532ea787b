use Rattle.std.proofs.Common.{map, sym}
use Rattle.am_report.specs.Sources.{holding_of}
use Rattle.am_report.proofs.GroupLines.{difference_is, nothing_held}
use Rattle.am_report.specs.Less.{less_word}
use Rattle.am_report.proofs.difference.append_difference.Goals as goal

pub returns-in_default : goal.returns-in_default
returns-in_default g c = λ key own. absurd (nothing_held g.V.Version.seen _ key c.in_default.ensures own)

pub append_others-requires : goal.append_others-requires
append_others-requires g c = sym c.in-Some.ensures

pub returns : goal.returns
returns g c =
    difference_is g.V.Version.seen g.V.ReportLine.begins (g.V.ReportLine.told c.args.format.now) (g.V.ReportLine.more c.args.format.now) (less_word g.V.Version.seen g.V.WithUnknown.unknown_of g.V.WithUnknown.known_of) (map holding_of c.args.sides.now) c.in-Some.greatest.now _ _ _ _
    c.in-Some.ensures c.in_ok-append_greatest.ensures c.in_ok-append_others.ensures (rw c.key.ensures at c.in_ok-append_missing.ensures)
