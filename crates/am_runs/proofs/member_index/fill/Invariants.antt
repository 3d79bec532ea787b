use Rattle.std.proofs.Common.{[]}
use Rattle.am_runs.specs.MemberIndexes.{AreMemberIndexes}
use Rattle.am_runs.proofs.member_index.fill.Given as goal

abbrev pub invariant-loop-member : goal.invariant-loop-member
invariant-loop-member g l = AreMemberIndexes g.V.Version.seen g.V.Key.Ord.cmp l.fn.indexes.items [] → AreMemberIndexes g.V.Version.seen g.V.Key.Ord.cmp l.indexes.items []
