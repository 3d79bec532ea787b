-- Each list of matchers has a verdict, whether anyone asks for it or not.
use Rattle.std.proofs.Common.{◌≡◌, ℕ, suc, ◌≤◌, ◌⊎◌, inl, inr, ⊎_elim, Bool, true, false, true≢false, List, [], ◌∷◌, Option, Some, None, All, Any, IsSomeAnd, refl, sym, ◌∙◌, arith}
use Rattle.std.specs.Str.{chars}
use Rattle.std.proofs.lemmas.Bool.{cases_lt}
use Rattle.std.proofs.lemmas.List.Elements.{All-nil, All-cons}
use Rattle.regex_syntax.specs.Grammar.{Names, read}
use Rattle.regex_syntax.specs.Brackets.{Nested}
use Rattle.regex_syntax.specs.declared.error.Error.{Error as SyntaxError}
use Rattle.regex_syntax.specs.declared.error.ErrorKind.TheVariants as parser
use Rattle.regex.specs.Patterns.{Re, default_config}
use Rattle.regex.specs.declared.error.Error.TheVariants.{Syntax}
use Rattle.am_silence.specs.declared.matcher.Matcher.{Matcher}
use Rattle.am_silence.specs.Kinds.{is_regexp}
use Rattle.am_matcher.specs.Patterns.{whole_text, IsReadable, IsSound, IsBroken}
use Rattle.am_matcher.specs.Matching.{IsSoundMatcher, IsBrokenMatcher}

read_or_not : (o : Option (Nested Re × Names)) (most : ℕ) → IsSomeAnd o (λ (re, names). re.depth ≤ most) ⊎ (¬ IsSomeAnd o (λ (re, names). re.depth ≤ most))
read_or_not None most = inr (λ none. none)
read_or_not (Some (re, names)) most = ⊎_elim (λ deep. inr (λ flat. omega (arith, deep, flat))) (λ flat. inl flat) (cases_lt most re.depth)

readable_or_not : (text : List ℕ) → IsReadable text ⊎ (¬ IsReadable text)
unfolding IsReadable
readable_or_not text = read_or_not (read default_config (chars text)) default_config.nest_limit

-- an error of the parser, whichever
some_error : SyntaxError
some_error = record { kind = parser.InvalidUtf8; span = record { start = 0; end = 0 } }

sound_or_broken : (pattern : List ℕ) → IsSound pattern ⊎ IsBroken pattern
sound_or_broken pattern = ⊎_elim
    (λ alone. ⊎_elim
    (λ whole. inl (record { alone = alone; whole = whole }))
    (λ no. inr (inr (alone, Syntax some_error, no)))
    (readable_or_not (whole_text pattern)))
    (λ no. inr (inl no))
    (readable_or_not pattern)

by_kind : (m : Matcher) (b : Bool) → is_regexp m.kind ≡ b → IsSoundMatcher m ⊎ IsBrokenMatcher m
by_kind m true is = ⊎_elim (λ sound. inl (λ _. sound)) (λ broken. inr (is, broken)) (sound_or_broken m.pattern)
by_kind m false is = inl (λ yes. absurd (true≢false (sym yes ∙ is)))

all_or_any : (matchers : List Matcher) → All IsSoundMatcher matchers ⊎ Any IsBrokenMatcher matchers
all_or_any [] = inl (All-nil IsSoundMatcher)
all_or_any (m ∷ ms) = ⊎_elim
    (λ sound. ⊎_elim
    (λ rest. inl (All-cons IsSoundMatcher m ms sound rest))
    (λ found. inr (suc found.0, found.1, omega (arith, found.2), found.3, found.4))
    (all_or_any ms))
    (λ broken. inr (0, m, omega arith, refl, broken))
    (by_kind m (is_regexp m.kind) refl)
