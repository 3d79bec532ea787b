-- Matchers and the labels that satisfy them.
use Rattle.std.specs.Prelude.{◌≡◌, ℕ, Bool, true, false, not, List, [], Option, Some, None, All, Any, if◌then◌else◌}
use Rattle.std.specs.List.{list_all, list_any}
use Rattle.std.specs.Option.{option_map_or}
use Rattle.am_silence.specs.declared.matcher.Matcher.{Matcher}
use Rattle.am_silence.specs.declared.matcher.MatcherKind.{MatcherKind}
use Rattle.am_silence.specs.declared.matcher.MatcherKind.TheVariants as kinds
use Rattle.am_silence.specs.Kinds.{is_regexp}
use Rattle.am_silence.specs.declared.plan.Verdict.{Verdict}
use Rattle.am_silence.specs.declared.plan.Verdict.TheVariants.{Fine, Bad, AllEmpty}
use Rattle.am_matcher.specs.Texts.{is_text}
use Rattle.am_silence.specs.declared.silence.Silence.{Silence}
use Rattle.am_matcher.specs.Labels.{last_named, value_in}
use Rattle.am_matcher.specs.declared.labels.Label.{Label}
use Rattle.am_matcher.specs.Patterns.{is_match, IsSound, IsBroken}
use Rattle.am_matcher.specs.Sizes.{Compilation}

-- the value is the pattern, or matches it from end to end if it is a regular expression
abbrev pub is_found_by : MatcherKind → List ℕ → List ℕ → Bool
is_found_by kind pattern value = if is_regexp kind then is_match pattern value else is_text pattern value

-- the value satisfies a matcher of this kind with this pattern
abbrev pub is_met : MatcherKind → List ℕ → List ℕ → Bool
is_met kind pattern value = elim kind [
  | kinds.Equal ↦ is_text pattern value
  | kinds.Regexp ↦ is_match pattern value
  | kinds.NotEqual ↦ not (is_text pattern value)
  | kinds.NotRegexp ↦ not (is_match pattern value)
]

-- the value satisfies the matcher
abbrev pub matches_value : Matcher → List ℕ → Bool
matches_value m value = is_met m.kind m.pattern value

-- one of the matchers has a regular expression
abbrev pub has_regexp : List Matcher → Bool
has_regexp matchers = list_any (λ m. is_regexp m.kind) matchers

-- the pattern of a matcher with a regular expression
abbrev pub regexp_of : Matcher → Option (List ℕ)
regexp_of m = if is_regexp m.kind then Some m.pattern else None

-- a regular expression of the matcher can be read
abbrev pub IsSoundMatcher : Matcher → Type 0
IsSoundMatcher m = is_regexp m.kind ≡ true → IsSound m.pattern

-- the matcher has a regular expression, which is broken
abbrev pub IsBrokenMatcher : Matcher → Type 0
IsBrokenMatcher m = (is_regexp m.kind ≡ true) × IsBroken m.pattern

-- the pattern of a matcher with a regular expression is compiled, and that of another one isn't
abbrev pub IsCompiled : Matcher → Option Compilation → Type 0
IsCompiled m (Some compiled) = (is_regexp m.kind ≡ true) × (compiled.text ≡ m.pattern)
IsCompiled m None = is_regexp m.kind ≡ false

-- the labels satisfy all of the matchers
abbrev pub match_all : List Matcher → List Label → Bool
match_all matchers labels = list_all (λ m. matches_value m (value_in labels m.name)) matchers

-- The verdict is Bad if a pattern is broken. Otherwise all patterns can be read, and the verdict says whether the empty
-- text satisfies all matchers. (Without labels, each value is the empty text.)
abbrev pub IsVerdict : List Matcher → Verdict → Type 0
IsVerdict matchers Bad = Any IsBrokenMatcher matchers
IsVerdict matchers AllEmpty = All IsSoundMatcher matchers × (list_all (λ m. matches_value m []) matchers ≡ true)
IsVerdict matchers Fine = All IsSoundMatcher matchers × (list_all (λ m. matches_value m []) matchers ≡ false)

-- The pattern of the last matcher with the name, whatever its kind is, or the empty text if there is none.
abbrev pub pattern_in : List Matcher → List ℕ → List ℕ
pattern_in matchers name = option_map_or (λ m. m.pattern) (last_named (λ m. m.name) name matchers) []

-- the filter matches the labels made of the silence's matchers
abbrev pub passes : Matcher → Silence → Bool
passes filter silence = matches_value filter (pattern_in silence.matchers filter.name)
