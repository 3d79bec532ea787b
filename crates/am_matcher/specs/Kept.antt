-- The results of building patterns.
use Rattle.std.specs.Prelude.{[], string_bytes}
use Rattle.am_matcher.specs.declared.dialect.Dialect.TheVariants.{Regex, Re2}
use Rattle.am_matcher.specs.Patterns.{IsSound}
use Rattle.am_matcher.specs.Re2.{IsTranslation}
use Rattle.am_matcher.specs.Dialects.{IsBrokenIn}
use Rattle.am_matcher.specs.Sizes.{CompiledPattern}
use Rattle.am_matcher.specs.declared.kept.Built.{Built}
use Rattle.am_matcher.specs.declared.kept.Built.TheVariants.{Sound, Translated, Broken}

-- the pattern that was built
abbrev pub pattern_of : Built → CompiledPattern
pattern_of (Sound whole) = record {
  dialect = Regex;
  text = whole.value.text;
  written = [];
  states = whole.value.states;
  transitions = whole.value.transitions;
  tables = whole.value.tables;
}
pattern_of (Translated text whole) = record {
  dialect = Re2;
  text = string_bytes text;
  written = whole.value.text;
  states = whole.value.states;
  transitions = whole.value.transitions;
  tables = whole.value.tables;
}
pattern_of (Broken dialect text) = record {
  dialect = dialect;
  text = string_bytes text;
  written = [];
  states = 0;
  transitions = 0;
  tables = 0;
}

-- the result is true of its pattern, which is sound or broken
abbrev pub IsBuilt : Built → Type 0
IsBuilt (Sound whole) = IsSound whole.value.text
IsBuilt (Translated text whole) = IsTranslation (string_bytes text) whole.value.text × IsSound whole.value.text
IsBuilt (Broken dialect text) = IsBrokenIn dialect (string_bytes text)
