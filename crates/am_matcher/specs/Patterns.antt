-- The meaning of a pattern, in the words of the crates that read it and search for it.
use Rattle.std.specs.Prelude.{ℕ, ◌≤◌, ◌⊎◌, Bool, false, List, ◌++◌, Option, Some, None, codes, chars, is_some, IsSomeAnd}
use Rattle.regex_syntax.specs.Grammar.{read, Names}
use Rattle.regex_syntax.specs.Brackets.{Nested}
use Rattle.regex.specs.Patterns.{Re, find_str, default_config}
use Rattle.regex.specs.declared.error.Error.{Error}
use Rattle.regex.specs.declared.error.Error.TheVariants.{Syntax, CompiledTooBig, Internal, OutOfMemory}

-- the text that is compiled for a pattern, so that it matches from end to end
abbrev pub whole_text : List ℕ → List ℕ
whole_text pattern = codes "^(?:" ++ pattern ++ codes ")$"

-- the expression that the grammar read is found in the text
abbrev pub has_match : Option (Nested Re × Names) → List ℕ → Bool
has_match None text = false
has_match (Some (re, names)) text = is_some (find_str re.value text 0)

-- the expression in the first text is found in the second one
unfoldable pub is_found : List ℕ → List ℕ → Bool
is_found source text = has_match (read default_config (chars source)) text

-- the text matches the pattern from end to end
abbrev pub is_match : List ℕ → List ℕ → Bool
is_match pattern text = is_found (whole_text pattern) text

-- the grammar can read the text, within the limit on nesting
unfoldable pub IsReadable : List ℕ → Type 0
IsReadable source = IsSomeAnd (read default_config (chars source)) (λ (re, names). re.depth ≤ default_config.nest_limit)

-- the pattern can be read by itself, and as it is compiled
pub record IsSound (pattern : List ℕ) : Type 0 where
  pub alone : IsReadable pattern
  pub whole : IsReadable (whole_text pattern)

-- The meaning of an error of `regex`, other than one of memory: the grammar can't read the text, or it can, and the
-- compiled form is too big. The contract of `regex` leaves open how big that is.
abbrev pub IsRefusedFor : List ℕ → Error → Type 0
IsRefusedFor text (Syntax e) = ¬ IsReadable text
IsRefusedFor text CompiledTooBig = IsReadable text
IsRefusedFor text Internal = ⊥
IsRefusedFor text OutOfMemory = ⊥

-- The grammar can't read the pattern by itself, or it can, and `regex` refuses the text that is compiled for it.
abbrev pub IsBroken : List ℕ → Type 0
IsBroken pattern = (¬ IsReadable pattern) ⊎ (IsReadable pattern × (error : Error) × IsRefusedFor (whole_text pattern) error)
