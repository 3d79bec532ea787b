use Rattle.std.proofs.Common.{◌≡◌, take, false, map}
use Rattle.std.specs.List.{list_any}
use Rattle.std.specs.Option.{option_copied}
use Rattle.am_report.specs.Differences.{is_same}
use Rattle.am_report.specs.Sources.{holding_of}
use Rattle.am_report.proofs.names.is_held.Given as goal

-- those before don't hold it
abbrev pub invariant-loop-cursor : goal.invariant-loop-cursor
invariant-loop-cursor g l =
    list_any (λ holding. is_same g.V.Version.seen holding.here (option_copied l.here)) (map holding_of (take l.cursor-index l.sides)) ≡ false
