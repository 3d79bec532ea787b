-- A compiled pattern finds exactly the readings of its text by the grammar.
use Rattle.std.proofs.Common.{◌≡◌, ◌<◌, ◌≤◌, ◌⊎◌, inl, inr, ℕ, Bool, true, false, true≢false, List, length, Option, None, Some, IsSomeAnd, is_some, get_or, subst, sym, ap, ◌∙◌, arith}
use Rattle.std.specs.Prelude.{◌≢◌, IfSome, if◌then◌else◌}
use Rattle.std.specs.Str.{chars}
use Rattle.regex_syntax.specs.Grammar.{Names, read}
use Rattle.regex_syntax.specs.Brackets.{Nested}
use Rattle.regex_syntax.specs.Verdict.{Reads, Refuses}
use Rattle.regex_syntax.specs.declared.error.ErrorKind.{ErrorKind}
use Rattle.regex_syntax.specs.declared.error.ErrorKind.TheVariants as parser
use Rattle.regex.specs.Patterns.{Re, SameCaptures, Config, find_str, default_config}
use Rattle.regex_hir.specs.Meaning.{meaning}
use Rattle.regex_hir.specs.Re.{Trace}
use Rattle.regex_hir.specs.Text.{is_boundary}
use Rattle.regex_hir.specs.declared.hir.Hir.{Hir}
use Rattle.regex_hir.proofs.FindLemmas.{first_between_cong}
use Rattle.regex_compile.specs.Implements.{Implements}
use Rattle.regex_nfa.specs.declared.nfa.Nfa.{Nfa}
use Rattle.regex.proofs.ForCallers.{is_match_alike}
use Rattle.am_matcher.specs.declared.compiled.BuildError.{BuildError}
use Rattle.am_matcher.specs.declared.compiled.BuildError.TheVariants as build
use Rattle.am_matcher.specs.Errors.{of_parser}
use Rattle.am_matcher.specs.Patterns.{has_match, is_found, IsReadable}
use Rattle.am_matcher.specs.Searches.{Finds}

found_in : (o : Option (Nested Re × Names)) (a : Re) (names : Names) (most : ℕ) (n : ℕ) (hay : List ℕ) →
    ((k : ℕ) → get_or hay k 0 < 256) →
    IsSomeAnd o (λ (re, found). (re.depth ≤ most) × SameCaptures a re.value × (names ≡ found) × (n ≤ length names)) →
    is_some (find_str a hay 0) ≡ has_match o hay
found_in None a names most n hay bytes p = absurd p
found_in (Some (re, found)) a names most n hay bytes p = is_match_alike p.1 hay bytes true 0

-- what is compiled from what is read in a text finds what the text does
pub finds_as_read : (nfa : Nfa) (hir : Hir) (config : Config) (source : List ℕ) (names : Names) → config ≡ default_config →
    Implements nfa (meaning hir) → Reads config source hir names → Finds nfa source
unfolding Reads is_found find_str
finds_as_read nfa hir config source names is_default implements is_read = λ text bytes.
    ap is_some (first_between_cong _ _ 0 (length text) (λ i low high. ap (λ (o : Option Trace). if is_boundary text i then o else None) (implements text i)))
    ∙ found_in (read default_config (chars source)) (meaning hir) names _ _ text bytes (rw is_default at is_read)

readable_in : (o : Option (Nested Re × Names)) (a : Re) (names : Names) (most n : ℕ) →
    IsSomeAnd o (λ (re, found). (re.depth ≤ most) × SameCaptures a re.value × (names ≡ found) × (n ≤ length names)) →
    IsSomeAnd o (λ (re, found). re.depth ≤ most)
readable_in None a names most n p = absurd p
readable_in (Some (re, found)) a names most n p = p.0

pub readable_as_read : (config : Config) (source : List ℕ) (a : Re) (names : Names) (n : ℕ) → config ≡ default_config →
    IsSomeAnd (read config (chars source)) (λ (re, found). (re.depth ≤ config.nest_limit) × SameCaptures a re.value × (names ≡ found) × (n ≤ length names)) →
    IsReadable source
unfolding IsReadable
readable_as_read config source a names n is_default is_read =
    readable_in (read default_config (chars source)) a names _ n (rw is_default at is_read)

-- ---- what is refused
abbrev is_memory : BuildError → Bool
is_memory build.BadPattern = false
is_memory build.Memory = true

pub memory_is_not_bad : build.Memory ≡ build.BadPattern → ⊥
memory_is_not_bad e = true≢false (ap is_memory e)

unread_in : (o : Option (Nested Re × Names)) (most : ℕ) → (o ≡ None) ⊎ IfSome o (λ (re, _). most < re.depth) →
    IsSomeAnd o (λ (re, _). re.depth ≤ most) → ⊥
unread_in None most refused readable = readable
unread_in (Some (re, found)) most (inl none) readable = true≢false (ap is_some none)
unread_in (Some (re, found)) most (inr deep) readable = omega (arith, deep, readable)

unread_as_refused : (source : List ℕ) (kind : ErrorKind) → Refuses default_config source kind → kind ≢ parser.OutOfMemory → IsReadable source → ⊥
unfolding IsReadable Refuses
unread_as_refused source kind (inl memory) other readable = absurd (other memory)
unread_as_refused source kind (inr (inl none)) other readable = unread_in (read default_config (chars source)) _ (inl none) readable
unread_as_refused source kind (inr (inr deep)) other readable = unread_in (read default_config (chars source)) _ (inr deep.1) readable

pub unread_by_parser : (config : Config) (source : List ℕ) (kind : ErrorKind) → config ≡ default_config → Refuses config source kind → of_parser kind ≡ build.BadPattern → IsReadable source → ⊥
unread_by_parser config source kind is_default refuses bad =
    unread_as_refused source kind (subst (λ (c : Config). Refuses c source kind) is_default refuses) (λ memory. memory_is_not_bad (sym (ap of_parser memory) ∙ bad))
