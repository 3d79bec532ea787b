-- Matches that the engines of `regex` find in a text.
use Rattle.std.specs.Prelude.{◌≡◌, ℕ, ◌<◌, ◌≤◌, List, length, get_or, Option, None, is_some, if◌then◌else◌, vec_len}
use Rattle.regex_hir.specs.Re.{Trace}
use Rattle.regex_hir.specs.Find.{Match, first_between}
use Rattle.regex_hir.specs.Text.{is_boundary}
use Rattle.regex_nfa.specs.Run.{run}
use Rattle.regex_nfa.specs.declared.nfa.Nfa.{Nfa}
use Rattle.regex_vm.specs.Pike.{Room}
use Rattle.am_matcher.specs.Patterns.{is_found}

-- the match that begins at a place
abbrev pub match_from : Nfa → List ℕ → ℕ → Option Trace
match_from nfa text place = run nfa text (length text) nfa.start place

-- the first match from a place where a character begins
abbrev pub found_by : Nfa → List ℕ → Option Match
found_by nfa text = first_between (λ i. if is_boundary text i then match_from nfa text i else None) 0 (length text)

-- in each text, the engine finds a match if and only if the expression that was compiled has one
abbrev pub Finds : Nfa → List ℕ → Type 0
Finds nfa source = (text : List ℕ) → ((k : ℕ) → get_or text k 0 < 256) → is_some (found_by nfa text) ≡ is_found source text

-- nothing matches from any place of a text but its first
abbrev pub BeginsFirst : Nfa → Type 0
BeginsFirst nfa = (text : List ℕ) (i : ℕ) → 0 < i → i ≤ length text → match_from nfa text i ≡ None

-- the engine has room for exactly the states that were compiled
abbrev pub IsRunnerFor : Nfa → Room → Type 0
IsRunnerFor nfa room = room.states ≡ vec_len nfa.states
