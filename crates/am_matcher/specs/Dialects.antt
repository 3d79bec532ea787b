-- The meaning of patterns and matchers in a dialect.
use Rattle.std.specs.Prelude.{◌≡◌, ◌⊎◌, ℕ, ◌==◌, Bool, true, false, ◌&&◌, ◌||◌, List, [], ◌∷◌, All, Any, MatchBool}
use Rattle.std.specs.List.{list_all}
use Rattle.std.specs.Char.{is_ascii_alphabetic, is_ascii_alphanumeric}
use Rattle.am_silence.specs.declared.matcher.Matcher.{Matcher}
use Rattle.am_silence.specs.declared.plan.Verdict.{Verdict}
use Rattle.am_silence.specs.declared.plan.Verdict.TheVariants.{Fine, Bad, AllEmpty}
use Rattle.am_silence.specs.Kinds.{is_regexp}
use Rattle.am_matcher.specs.declared.dialect.Dialect.{Dialect}
use Rattle.am_matcher.specs.declared.dialect.Dialect.TheVariants.{Regex, Re2}
use Rattle.am_matcher.specs.declared.labels.Label.{Label}
use Rattle.am_matcher.specs.Labels.{value_in}
use Rattle.am_matcher.specs.Patterns.{is_match, IsSound, IsBroken}
use Rattle.am_matcher.specs.Matching.{matches_value, match_all, IsSoundMatcher, IsVerdict}
use Rattle.am_matcher.specs.Filters.{IsFilter}
use Rattle.am_matcher.specs.Re2.{IsTranslation}

-- the pattern of `regex` that a pattern stands for: itself, or the one that is written for a pattern of RE2
abbrev pub IsMeaning : Dialect → List ℕ → List ℕ → Type 0
IsMeaning Regex pattern meant = meant ≡ pattern
IsMeaning Re2 pattern meant = IsTranslation pattern meant

-- the pattern stands for a pattern of `regex`
abbrev pub IsTaken : Dialect → List ℕ → Type 0
IsTaken dialect pattern = (meant : List ℕ) × IsMeaning dialect pattern meant

-- the pattern stands for a pattern of `regex` that can be read
abbrev pub IsSoundIn : Dialect → List ℕ → Type 0
IsSoundIn dialect pattern = (meant : List ℕ) × IsMeaning dialect pattern meant × IsSound meant

-- the pattern stands for none of `regex`, or for one that is broken, such as one that is too big
abbrev pub IsBrokenIn : Dialect → List ℕ → Type 0
IsBrokenIn dialect pattern = (¬ IsTaken dialect pattern) ⊎ ((meant : List ℕ) × IsMeaning dialect pattern meant × IsBroken meant)

-- the answer says whether the value matches the pattern from end to end, as the pattern is meant
pub record IsAnswer (dialect : Dialect) (pattern value : List ℕ) (yes : Bool) : Type 0 where
  pub meant : List ℕ
  pub is_meant : IsMeaning dialect pattern meant
  pub sound : IsSound meant
  pub answer : yes ≡ is_match meant value

-- The matcher as it is meant: with a regular expression, it has the pattern of `regex` that its own pattern stands for.
pub record IsMeant (dialect : Dialect) (m meant : Matcher) : Type 0 where
  pub kind : meant.kind ≡ m.kind
  pub name : meant.name ≡ m.name
  pub pattern : MatchBool (is_regexp m.kind) (IsMeaning dialect m.pattern meant.pattern) (meant.pattern ≡ m.pattern)

-- the matchers as they are meant, in their order
abbrev pub AreMeant : Dialect → List Matcher → List Matcher → Type 0
AreMeant dialect [] [] = Unit {0}
AreMeant dialect (m ∷ matchers) (meant ∷ more) = IsMeant dialect m meant × AreMeant dialect matchers more
AreMeant dialect _ _ = ⊥

-- the matcher has a regular expression, whose pattern is broken
abbrev pub IsRefusedMatcher : Dialect → Matcher → Type 0
IsRefusedMatcher dialect m = (is_regexp m.kind ≡ true) × IsBrokenIn dialect m.pattern

-- the answer says whether the labels satisfy the matcher as it is meant
pub record DoesMatch (dialect : Dialect) (m : Matcher) (labels : List Label) (yes : Bool) : Type 0 where
  pub meant : Matcher
  pub is_meant : IsMeant dialect m meant
  pub sound : IsSoundMatcher meant
  pub answer : yes ≡ matches_value meant (value_in labels meant.name)

-- the answer says whether the labels satisfy all of the matchers as they are meant
pub record DoMatch (dialect : Dialect) (matchers : List Matcher) (labels : List Label) (yes : Bool) : Type 0 where
  pub meant : List Matcher
  pub are_meant : AreMeant dialect matchers meant
  pub sound : All IsSoundMatcher meant
  pub answer : yes ≡ match_all meant labels

-- the name of a label, `[a-zA-Z_][a-zA-Z0-9_]*`
abbrev pub is_label : List ℕ → Bool
is_label [] = false
is_label (c ∷ rest) = (is_ascii_alphabetic c || (c == 0x5F)) && list_all (λ d. is_ascii_alphanumeric d || (d == 0x5F)) rest

-- all matchers have names of labels
abbrev pub are_labels : List Matcher → Bool
are_labels matchers = list_all (λ m. is_label m.name) matchers

-- posted matchers may have their names: any name with `regex`, and names of labels with RE2
abbrev pub takes_names : Dialect → List Matcher → Bool
takes_names Regex matchers = true
takes_names Re2 matchers = are_labels matchers

-- The verdict is Bad if a pattern is broken or a name isn't taken, and otherwise that on the matchers as they are meant.
abbrev pub IsVerdictIn : Dialect → List Matcher → Verdict → Type 0
IsVerdictIn dialect matchers Bad = Any (IsRefusedMatcher dialect) matchers ⊎ (takes_names dialect matchers ≡ false)
IsVerdictIn dialect matchers AllEmpty =
    (takes_names dialect matchers ≡ true) × (meant : List Matcher) × AreMeant dialect matchers meant × IsVerdict meant AllEmpty
IsVerdictIn dialect matchers Fine =
    (takes_names dialect matchers ≡ true) × (meant : List Matcher) × AreMeant dialect matchers meant × IsVerdict meant Fine

-- the text with these bytes is a filter that stands for the matcher as it is meant
pub record IsFilterIn (dialect : Dialect) (bytes : List ℕ) (meant : Matcher) : Type 0 where
  pub written : Matcher
  pub is_filter : IsFilter bytes written
  pub is_meant : IsMeant dialect written meant
