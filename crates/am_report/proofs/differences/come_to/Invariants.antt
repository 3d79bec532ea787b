use Rattle.std.proofs.Common.{◌≡◌, ◌++◌, take, drop, map}
use Rattle.am_report.specs.Sources.{come_to}
use Rattle.am_report.proofs.differences.come_to.Given as goal

abbrev pub invariant-loop-cursor : goal.invariant-loop-cursor
invariant-loop-cursor g l = l.sides ≡ map (come_to g.V.Version.seen g.V.Key.Ord.cmp l.key) (take l.cursor-index l.initial.sides) ++ drop l.cursor-index l.initial.sides
