use Rattle.std.proofs.Common.{◌≡◌, Some, get_or, sym, ◌∙◌}
use Rattle.am_schedule.specs.Numbers.{count_in}
use Rattle.am_schedule.proofs.Values.{value_here, one_more}
use Rattle.am_schedule.proofs.lists.counts.Goals as goal

pub loop-word-preserved : goal.loop-word-preserved
loop-word-preserved c =
    let is : count_in (get_or c.args.words.now c.loop-word.word-index _).now ≡ Some c.in-Some.number = sym c.count.ensures ∙ c.in-Some.is in
    rw (c.in_ok-push-in-Some.ensures.items) (one_more _ c.in-Some.number _ ∙ rw (value_here count_in _ _ _ c.in-Some.number c.loop-word-test.true is) at c.loop-word.invariant)
