use Rattle.std.proofs.Common.{◌≡◌, take, map, Some}
use Rattle.std.specs.Option.{option_copied}
use Rattle.am_report.specs.Groups.{greatest_within}
use Rattle.am_report.specs.Sources.{holding_of}
use Rattle.am_report.proofs.groups.next_below.Given as goal

abbrev pub invariant-loop-cursor : goal.invariant-loop-cursor
invariant-loop-cursor g l = option_copied l.best ≡ greatest_within g.V.Version.seen (Some l.above) (map holding_of (take l.cursor-index l.sides))
