use Rattle.std.proofs.Common.{arith, Option, ℕ, ◌+◌, List, refl, sym, ap₂, subst, length, ◌-◌, ◌∙◌}
use Rattle.std.specs.Prelude.{IsSomeAnd}
use Rattle.am_wire.specs.Offsets.{Follows}
use Rattle.am_silence.specs.declared.matcher.Matcher.{Matcher}
use Rattle.am_silence.specs.Matchers.{writes_matcher}
use Rattle.am_silence.specs.MatcherTexts.{writes_matchers}
use Rattle.am_silence.proofs.Buckets.{goes_on, matcher_follows, goes_further, found_here, found_later}
use Rattle.am_silence.proofs.bucket.first_wanting.Goals as goal

pub loop-matcher-init : goal.loop-matcher-init
loop-matcher-init c = record { found = refl; goes_on = goes_on c.args.matchers }

pub loop-matcher-preserved : goal.loop-matcher-preserved
loop-matcher-preserved c =
    let on = c.loop-matcher.invariant.goes_on in
    let first = c.in-Some.ensures.steps in
    let left = ap₂ (λ (whole rest : List ℕ). length whole - length rest) c.as_text-len.ensures.text c.as_text.ensures.text in
    record {
      found = c.loop-matcher.invariant.found ∙ found_later on first (sym c.wants_label.ensures ∙ c.if-wants_label.false);
      goes_on = goes_further on first _ left;
    }

pub returns-then-wants_label : goal.returns-then-wants_label
returns-then-wants_label c =
    let on = c.loop-matcher.invariant.goes_on in
    let first = c.in-Some.ensures.steps in
    let found = c.loop-matcher.invariant.found ∙ found_here on first (sym c.wants_label.ensures ∙ c.if-wants_label.true) in (
      omega arith,
      subst (λ (found : Option Matcher). IsSomeAnd found (λ m. Follows (c.loop-matcher.at + 1) (writes_matcher m) (writes_matchers c.args.matchers)))
          (sym found) (matcher_follows on first c.as_text-len.ensures.short),
    )
