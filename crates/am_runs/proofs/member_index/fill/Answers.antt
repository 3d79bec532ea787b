use Rattle.std.proofs.Common.{[], sym, subst}
use Rattle.am_runs.specs.MemberIndexes.{AreMemberIndexes}
use Rattle.am_runs.proofs.Stands.{stands_more}
use Rattle.am_runs.proofs.member_index.fill.Goals as goal

pub loop-member-preserved : goal.loop-member-preserved
loop-member-preserved g c are =
    subst (λ ss. AreMemberIndexes g.V.Version.seen g.V.Key.Ord.cmp ss []) (sym c.in_ok-push.ensures.items)
    (stands_more g.V.Version.seen g.V.Key.Ord.cmp c.loop-member.indexes.items c.new.result c.new-in-loop-member.result c.new.ensures c.new-in-loop-member.ensures (c.loop-member.invariant are))

pub returns-in_err-push : goal.returns-in_err-push
returns-in_err-push g c are =
    subst (λ ss. AreMemberIndexes g.V.Version.seen g.V.Key.Ord.cmp ss []) (sym c.in_err-push.ensures.items) (c.loop-member.invariant are)
