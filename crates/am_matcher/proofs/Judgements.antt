-- Matchers that are judged one after the other: m comes before the others.
use Rattle.std.proofs.Common.{◌≡◌, ℕ, Bool, true, false, ◌||◌, cond, find, List, [], ◌∷◌, reverse, Option, Some, None, refl, sym, ap, ◌∙◌}
use Rattle.std.specs.Prelude.{if◌then◌else◌}
use Rattle.std.specs.Option.{option_map_or, option_or}
use Rattle.std.proofs.lemmas.List.{reverse-append}
use Rattle.std.proofs.lemmas.List.Folds.{find-append}
use Rattle.am_silence.specs.declared.matcher.Matcher.{Matcher}
use Rattle.am_matcher.specs.Texts.{is_text}
use Rattle.am_matcher.specs.Labels.{last_named}
use Rattle.am_silence.specs.Kinds.{is_regexp}
use Rattle.am_matcher.specs.Matching.{has_regexp}

or_later : (here later : Bool) → later ≡ true → (here || later) ≡ true
or_later true later found = refl
or_later false later found = found

-- the first of two options, or what is so far
last_or : (found : Option Matcher) (m : Matcher) (test : Bool) (before : List ℕ)
    → option_map_or (λ m. m.pattern) (option_or found (cond test (Some m) None)) before ≡ option_map_or (λ m. m.pattern) found (if test then m.pattern else before)
last_or (Some x) m test before = refl
last_or None m true before = refl
last_or None m false before = refl

module _ {left others : List Matcher} {m : Matcher} (first : left ≡ m ∷ others) where
  pub has_regexp-first : is_regexp m.kind ≡ true → has_regexp left ≡ true
  has_regexp-first is = ap has_regexp first ∙ ap (λ (b : Bool). b || has_regexp others) is

  pub has_regexp-later : has_regexp others ≡ true → has_regexp left ≡ true
  has_regexp-later found = ap has_regexp first ∙ or_later (is_regexp m.kind) (has_regexp others) found

  -- of a name the last matcher counts
  pub pattern-first : (name before : List ℕ)
      → option_map_or (λ m. m.pattern) (last_named (λ m. m.name) name others) (if is_text m.name name then m.pattern else before)
      ≡ option_map_or (λ m. m.pattern) (last_named (λ m. m.name) name left) before
  pattern-first name before =
      let test : Matcher → Bool = λ x. is_text x.name name in
      let found : find test (reverse (m ∷ others)) ≡ option_or (find test (reverse others)) (cond (test m) (Some m) None) =
      ap (find test) (reverse-append (m ∷ []) others) ∙ find-append test (reverse others) (m ∷ []) in
      sym (last_or (find test (reverse others)) m (test m) before)
      ∙ ap (λ (o : Option Matcher). option_map_or (λ m. m.pattern) o before) (sym found)
      ∙ ap (λ (ms : List Matcher). option_map_or (λ m. m.pattern) (last_named (λ m. m.name) name ms) before) (sym first)
