use Rattle.std.proofs.Common.{rules, ◌≡◌, ◌<◌, ◌^◌, length, drop, ℕ, subst, arith}
use Rattle.am_silence.specs.Matchers.{writes_matcher}
use Rattle.am_silence.proofs.Passed.{none_passed, one_more, shrinks, begins_before, since_text, since_passed, since_values}
use Rattle.am_silence.proofs.canonical.pass_all.Goals as goal

pub loop-reader-init : goal.loop-reader-init
loop-reader-init c = none_passed _

pub loop-reader-smaller : goal.loop-reader-smaller
loop-reader-smaller c = shrinks (writes_matcher c.in_ok-pass_matcher.field-0) _ _ c.in_ok-pass_matcher.ensures.passed (c.goes_on.ensures c.loop-reader-test.true)

pub loop-reader-preserved : goal.loop-reader-preserved
loop-reader-preserved c = one_more c.in_ok-pass_matcher.field-0 _ _ _ c.loop-reader.invariant c.in_ok-pass_matcher.ensures.value c.in_ok-pass_matcher.ensures.passed

pub since-text-requires : goal.since-text-requires
since-text-requires c = let before = begins_before _ _ c.loop-reader.invariant in omega (arith, before, c.at-begun.ensures.at)

pub over-requires : goal.over-requires
over-requires c = since_text _ _ c.loop-reader.invariant c.since-text.result.now (subst (λ (n : ℕ). c.since-text.result.now ≡ drop n c.loop-reader.reader.passed) c.at-begun.ensures.at c.since-text.ensures) (search rules)

pub returns : goal.returns
returns c =
    let is = subst (λ (n : ℕ). c.since-text.result.now ≡ drop n c.loop-reader.reader.passed) c.at-begun.ensures.at c.since-text.ensures in
    let short : length c.since-text.result.now < 2 ^ 64 = search rules in
    record {
      passed = since_passed _ _ c.loop-reader.invariant c.since-text.result.now is short c.over.result c.over.ensures;
      values = since_values _ _ c.loop-reader.invariant c.since-text.result.now is short c.over.result c.over.ensures;
    }
