use Rattle.std.proofs.Common.{◌∙◌}
use Rattle.am_matcher.proofs.Judgements.{has_regexp-first, has_regexp-later}
use Rattle.am_matcher.proofs.Meant.{decide_last, decide_next, refused-first, refused-later}
use Rattle.am_matcher.proofs.HandedOn.{handed_on, on_err}
use Rattle.am_matcher.proofs.Uses.{first_passes, others_pass}
use Rattle.am_matcher.proofs.judged.judge_all.Goals as goal

pub loop-matcher-preserved : goal.loop-matcher-preserved
loop-matcher-preserved c =
    let first = c.in-Some.ensures.steps in
    let judged = c.in_ok-matches.ensures in
    let before = c.loop-matcher.invariant in record {
      answer = decide_next c.args.dialect _ _ _ _ c.args.labels.now c.loop-matcher.all c.in_ok-matches.matches first judged.answer before.answer;
      broken = λ rest. before.broken (refused-later first c.args.dialect rest);
      failed = λ found. before.failed (has_regexp-later first found);
      same = λ no. judged.same no ∙ before.same no;
      rest = λ test pass. others_pass first test (before.rest test pass);
      kept = λ test pass old. judged.kept test (first_passes first test (before.rest test pass)) (before.kept test pass old);
    }

pub returns-in_err-matches-clause-broken : goal.returns-in_err-matches-clause-broken
returns-in_err-matches-clause-broken c bad =
    c.loop-matcher.invariant.broken
    (refused-first c.in-Some.ensures.steps c.args.dialect (c.in_err-matches.ensures.broken (handed_on c.from_residual.result c.in_err-matches.field-0.0 _ c.from_residual.ensures.1 bad)))

pub returns-in_err-matches-clause-failed : goal.returns-in_err-matches-clause-failed
returns-in_err-matches-clause-failed c =
    on_err c.from_residual.result
    (c.loop-matcher.invariant.failed (has_regexp-first c.in-Some.ensures.steps c.in_err-matches.ensures.failed))

pub returns-in_err-matches-clause-same : goal.returns-in_err-matches-clause-same
returns-in_err-matches-clause-same c = λ no. c.in_err-matches.ensures.same no ∙ c.loop-matcher.invariant.same no

pub returns-in_err-matches-clause-kept : goal.returns-in_err-matches-clause-kept
returns-in_err-matches-clause-kept c = λ test pass old.
    c.in_err-matches.ensures.kept test (first_passes c.in-Some.ensures.steps test (c.loop-matcher.invariant.rest test pass)) (c.loop-matcher.invariant.kept test pass old)

pub returns-clause-answer : goal.returns-clause-answer
returns-clause-answer c = decide_last c.args.dialect _ _ c.args.labels.now c.loop-matcher.all c.in-None.ensures.steps.0 c.loop-matcher.invariant.answer
