-- The bytes that are counted for patterns that are kept.
use Rattle.std.specs.Prelude.{ℕ, ◌+◌, ◌*◌, List, length, nat_lt, sum_by, vec_len, if◌then◌else◌}
use Rattle.regex_dfa.specs.declared.dfa.Dfa.{Dfa}
use Rattle.am_matcher.specs.declared.dialect.Dialect.{Dialect}

-- The compiled form of a pattern of `regex`: its text, and the numbers of its states, transitions and searches' tables.
pub record Compilation : Type 0 where
  pub text : List ℕ
  pub states : ℕ
  pub transitions : ℕ
  pub tables : ℕ

-- the compiled form of a text
abbrev pub compilation : List ℕ → Dfa → Compilation
compilation text dfa = record {
  text = text;
  states = vec_len dfa.nfa.states;
  transitions = vec_len dfa.nfa.transitions;
  tables = if dfa.needs.unicode then 2 else 1;
}

-- A pattern that was built: its dialect, its text, the text that was written for it if it doesn't stand for itself, and the
-- numbers of its compiled form. They are 0 if the pattern is broken.
pub record CompiledPattern : Type 0 where
  pub dialect : Dialect
  pub text : List ℕ
  pub written : List ℕ
  pub states : ℕ
  pub transitions : ℕ
  pub tables : ℕ

-- the size of a compiled form: 4,096, the length of its text, 160 a state, 24 a transition and 16,384 a table
abbrev pub bytes_of : Compilation → ℕ
bytes_of c = 4_096 + length c.text + 160 * c.states + 24 * c.transitions + 16_384 * c.tables

-- the size of a pattern: the same, with the length of the text that was written for it
abbrev pub size_of : CompiledPattern → ℕ
size_of p = 4_096 + length p.text + length p.written + 160 * p.states + 24 * p.transitions + 16_384 * p.tables

-- the size of all patterns
abbrev pub size_of_all : List CompiledPattern → ℕ
size_of_all patterns = sum_by size_of patterns

-- the steps of a search for a pattern in a text of this length, which follows each state at each byte; 0 if they are at most
-- 1,048,576, as in any short search
abbrev pub long_steps : ℕ → CompiledPattern → ℕ
long_steps length p = if nat_lt 1_048_576 (p.states * length) then p.states * length else 0

-- the steps of all long searches for these patterns in a text of this length
abbrev pub long_steps_of_all : ℕ → List CompiledPattern → ℕ
long_steps_of_all length patterns = sum_by (long_steps length) patterns
