use Rattle.std.proofs.Common.{◌≡◌, take, false, map, not}
use Rattle.std.specs.List.{list_any}
use Rattle.std.specs.Option.{option_copied}
use Rattle.am_report.specs.Differences.{compared_of, is_same}
use Rattle.am_report.specs.Sources.{holding_of}
use Rattle.am_report.proofs.differences.is_different.Given as goal

-- those before are the same
abbrev pub invariant-loop-other : goal.invariant-loop-other
invariant-loop-other g l =
    list_any (λ other. not (is_same g.V.Version.seen (option_copied l.here) (compared_of g.V.Version.seen l.compared l.now other.here))) (map holding_of (take l.other-index l.others)) ≡ false
