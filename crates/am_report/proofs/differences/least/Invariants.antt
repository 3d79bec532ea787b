use Rattle.std.proofs.Common.{◌≡◌, take}
use Rattle.std.specs.Option.{option_copied}
use Rattle.am_report.specs.Walks.{least_of}
use Rattle.am_report.proofs.differences.least.Given as goal

abbrev pub invariant-loop-cursor : goal.invariant-loop-cursor
invariant-loop-cursor g l = option_copied l.least ≡ least_of g.V.Version.seen g.V.Key.Ord.cmp (take l.cursor-index l.sides)
