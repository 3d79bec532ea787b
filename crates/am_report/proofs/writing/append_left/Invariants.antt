use Rattle.std.proofs.Common.{string_bytes}
use Rattle.std.specs.Prelude.{All}
use Rattle.am_merge.specs.Maps.{IsMap}
use Rattle.am_report.specs.Sources.{left_of_all}
use Rattle.am_report.specs.ReportLine.{difference_lines}
use Rattle.am_report.proofs.Differing.{AreTold}
use Rattle.am_report.specs.Less.{less_word}
use Rattle.am_report.proofs.writing.append_left.Given as goal

-- the lines of the differences so far are appended
abbrev pub invariant-loop-compared : goal.invariant-loop-compared
invariant-loop-compared g l = record {
  order : All (λ cursor. IsMap g.V.Version.seen g.V.Key.Ord.cmp cursor.left) l.sides;
  told : AreTold g.V.Version.seen g.V.Key.Ord.cmp l.compared l.format.moment (difference_lines g.V.Version.seen g.V.ReportLine.begins (g.V.ReportLine.told l.format) (g.V.ReportLine.more l.format) (less_word g.V.Version.seen g.V.WithUnknown.unknown_of g.V.WithUnknown.known_of)) l.fn.sides l.sides (string_bytes l.fn.out) (string_bytes l.out) l.found;
}

abbrev pub decreases-loop-compared : goal.decreases-loop-compared
decreases-loop-compared g l = left_of_all l.sides
