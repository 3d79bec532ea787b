-- The patterns that silences have.
use Rattle.std.specs.Prelude.{◌≡◌, ℕ, Bool, true, ◌&&◌, List, All}
use Rattle.std.specs.List.{list_any}
use Rattle.am_silence.specs.declared.matcher.Matcher.{Matcher}
use Rattle.am_silence.specs.Kinds.{is_regexp}
use Rattle.am_silence.specs.Mesh.{Mesh}
use Rattle.am_matcher.specs.Texts.{is_text}
use Rattle.am_matcher.specs.Sizes.{CompiledPattern}

-- the matcher has a regular expression with this text
abbrev pub has_pattern : List ℕ → Matcher → Bool
has_pattern text m = is_regexp m.kind && is_text m.pattern text

-- one of the silences has a regular expression with this text
abbrev pub is_used_by : List Mesh → List ℕ → Bool
is_used_by silences text = list_any (λ m. list_any (has_pattern text) m.silence.matchers) silences

-- one of the patterns has this text
abbrev pub is_among : List CompiledPattern → List ℕ → Bool
is_among patterns text = list_any (λ p. is_text p.text text) patterns

-- the texts of all patterns pass the test
abbrev pub TextsPass : (List ℕ → Bool) → List CompiledPattern → Type 0
TextsPass test patterns = All (λ p. test p.text ≡ true) patterns

-- the texts of the regular expressions of all matchers pass the test
abbrev pub PatternsPass : (List ℕ → Bool) → List Matcher → Type 0
PatternsPass test matchers = All (λ m. is_regexp m.kind ≡ true → test m.pattern ≡ true) matchers

-- the texts of the regular expressions of all silences pass the test
abbrev pub SilencesPass : (List ℕ → Bool) → List Mesh → Type 0
SilencesPass test silences = All (λ m. PatternsPass test m.silence.matchers) silences
