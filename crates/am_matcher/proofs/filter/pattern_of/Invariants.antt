use Rattle.std.proofs.Common.{◌≡◌, IsUtf8}
use Rattle.std.specs.Option.{option_map_or}
use Rattle.am_matcher.specs.Labels.{last_named}
use Rattle.am_matcher.specs.Matching.{pattern_in}
use Rattle.am_matcher.proofs.filter.pattern_of.Given as goal

-- what is left decides, and where it has no such name, what was found
abbrev pub invariant-loop-matcher : goal.invariant-loop-matcher
invariant-loop-matcher l = record {
  pattern : option_map_or (λ m. m.pattern) (last_named (λ m. m.name) l.name l.matcher-iterator) l.pattern ≡ pattern_in l.fn.matchers l.name;
  is_text : IsUtf8 l.pattern;
}
