use Rattle.std.proofs.Common.{sym, subst}
use Rattle.am_matcher.specs.Uses.{PatternsPass}
use Rattle.am_matcher.proofs.muting.effect_of.Goals as goal

pub returns-in-Ok-true-clause-kept : goal.returns-in-Ok-true-clause-kept
returns-in-Ok-true-clause-kept c = λ test pass old. c.judge_all.ensures.kept test (subst (PatternsPass test) (sym c.matchers.ensures) pass) old

pub returns-in-Ok-false-clause-kept : goal.returns-in-Ok-false-clause-kept
returns-in-Ok-false-clause-kept c = λ test pass old. c.judge_all.ensures.kept test (subst (PatternsPass test) (sym c.matchers.ensures) pass) old

pub returns-in-Err-BadPattern-clause-kept : goal.returns-in-Err-BadPattern-clause-kept
returns-in-Err-BadPattern-clause-kept c = λ test pass old. c.judge_all.ensures.kept test (subst (PatternsPass test) (sym c.matchers.ensures) pass) old

pub returns-in-Err-Memory-clause-kept : goal.returns-in-Err-Memory-clause-kept
returns-in-Err-Memory-clause-kept c = λ test pass old. c.judge_all.ensures.kept test (subst (PatternsPass test) (sym c.matchers.ensures) pass) old
