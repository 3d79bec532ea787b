use Rattle.am_matcher.proofs.Re2Nestings.{walked, misplaced, not_whole, is_whole}
use Rattle.am_matcher.proofs.re2.nesting.misplaced.Goals as goal

pub loop-part-preserved : goal.loop-part-preserved
loop-part-preserved c =
    walked _ _ _ _ _ _ _ c.loop-part.invariant c.in-Some.ensures.cases.0 c.in_ok-step.ensures c.if-not-branch.false

pub returns-then-not-branch : goal.returns-then-not-branch
returns-then-not-branch c =
    misplaced _ _ _ _ _ _ _ c.loop-part.invariant c.in-Some.ensures.cases.0 c.in_ok-step.ensures c.if-not-branch.true

pub returns-then-is_whole : goal.returns-then-is_whole
returns-then-is_whole c = is_whole _ _ _ c.loop-part.invariant c.in_default.ensures.cases c.if-is_whole.ensures

pub returns : goal.returns
returns c = not_whole _ _ _ c.loop-part.invariant c.in_default.ensures.cases c.if-is_whole.ensures
