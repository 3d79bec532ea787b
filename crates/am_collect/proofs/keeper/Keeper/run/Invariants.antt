use Rattle.std.proofs.Common.{take}
use Rattle.am_collect.specs.Keepers.{events_of, IsLeftBy}
use Rattle.am_collect.proofs.keeper.Keeper.run.Given as goal

abbrev pub invariant-loop-place : goal.invariant-loop-place
invariant-loop-place g l = IsLeftBy g.V.Version.seen g.V.Key.Ord.cmp l.fn.self (events_of (take l.place l.steps)) l.self
