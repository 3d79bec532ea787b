use Rattle.std.proofs.Common.{map, string_bytes}
use Rattle.am_report.specs.Sources.{holding_of}
use Rattle.am_report.proofs.Ranking.{below_count}
use Rattle.am_report.specs.ReportLine.{behind_line}
use Rattle.am_report.proofs.GroupLines.{IsWritten}
use Rattle.am_report.specs.Less.{less_word}
use Rattle.am_report.proofs.difference.append_others.Given as goal

-- with the lines of the versions behind the last, all are appended
abbrev pub invariant-loop-version : goal.invariant-loop-version
invariant-loop-version g l =
    IsWritten g.V.Version.seen (behind_line g.V.Version.seen g.V.ReportLine.begins (g.V.ReportLine.told l.format) (g.V.ReportLine.more l.format) (less_word g.V.Version.seen g.V.WithUnknown.unknown_of g.V.WithUnknown.known_of) (g.V.Version.seen l.greatest).key (map holding_of l.sides) l.greatest)
    (map holding_of l.sides) l.greatest l.last (string_bytes l.fn.out) (string_bytes l.out)

abbrev pub decreases-loop-version : goal.decreases-loop-version
decreases-loop-version g l = below_count g.V.Version.seen l.last (map holding_of l.sides)
