use Rattle.std.proofs.Common.{List, ℕ, ap, ◌∙◌, rules}
use Rattle.std.specs.Option.{option_map_or}
use Rattle.am_matcher.specs.Labels.{last_named}
use Rattle.am_matcher.proofs.Judgements.{pattern-first}
use Rattle.am_matcher.proofs.filter.pattern_of.Goals as goal

pub loop-matcher-preserved : goal.loop-matcher-preserved
loop-matcher-preserved c = record {
  pattern =
      ap (λ (pattern : List ℕ). option_map_or (λ m. m.pattern) (last_named (λ m. m.name) c.args.name.now c.next.new.self) pattern) c.later_pattern-pattern.ensures
      ∙ pattern-first c.in-Some.ensures.steps c.args.name.now c.loop-matcher.pattern.now
      ∙ c.loop-matcher.invariant.pattern;
  is_text = search rules;
}
