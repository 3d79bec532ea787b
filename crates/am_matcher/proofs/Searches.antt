-- A search from the first place finds as much as one from any.
use Rattle.std.proofs.Common.{◌≡◌, ℕ, ◌+◌, ◌<◌, ◌≤◌, Bool, true, false, List, length, Option, None, Some, is_some, option_map, refl, sym, ap, ◌∙◌, subst, arith}
use Rattle.std.specs.Prelude.{if◌then◌else◌}
use Rattle.std.specs.Option.{option_or}
use Rattle.std.proofs.lemmas.Option.{same_Some}
use Rattle.regex_hir.specs.Re.{Re, Rest, Trace, accept}
use Rattle.regex_hir.specs.Find.{first_between}
use Rattle.regex_hir.specs.Matches.{Matches}
use Rattle.regex_hir.specs.Text.{is_boundary}
use Rattle.regex_hir.proofs.AttemptLemmas.{attempt_sound}
use Rattle.regex_hir.proofs.OptionLemmas.{none_of_no_value, option_or-None}
use Rattle.regex_hir.proofs.FindLemmas.{match_at, first_between_unfold, first_between_past, first_between_none}
use Rattle.regex_nfa.specs.declared.nfa.Nfa.{Nfa}
use Rattle.regex_compile.specs.Implements.{Implements}
use Rattle.regex_extract.specs.Bounds.{IsAnchored}
use Rattle.am_matcher.specs.Searches.{match_from, found_by, BeginsFirst}

is_some-map : {A B : Type 0} (f : A → B) (o : Option A) → is_some (option_map f o) ≡ is_some o
is_some-map f None = refl
is_some-map f (Some x) = refl

none_if : {A : Type 0} (b : Bool) (o : Option A) → o ≡ None → (if b then o else None) ≡ None
none_if true o e = e
none_if false o e = refl

module _ (at : Rest) where
  -- only one place
  pub one_place : (place : ℕ) → is_some (first_between at place place) ≡ is_some (at place)
  one_place place =
      ap is_some (first_between_unfold at place place (omega arith) ∙ ap (option_or (match_at at place)) (first_between_past at (place + 1) place (omega arith)) ∙ option_or-None _)
      ∙ is_some-map (λ (t : Trace). record { start = place; trace = t }) (at place)

  -- the first place, where there is nothing behind it
  first_place : (last : ℕ) → ((i : ℕ) → 0 < i → i ≤ last → at i ≡ None) → is_some (at 0) ≡ is_some (first_between at 0 last)
  first_place last behind =
      sym (ap is_some (first_between_unfold at 0 last (omega arith)
      ∙ ap (option_or (match_at at 0)) (first_between_none at 1 last (λ i low high. behind i (omega (arith, low)) high))
      ∙ option_or-None _)
      ∙ is_some-map (λ (t : Trace). record { start = 0; trace = t }) (at 0))

-- what begins first is found at the first place, where a character begins there
pub found_first : (nfa : Nfa) (text : List ℕ) → BeginsFirst nfa →
    is_some (if is_boundary text 0 then match_from nfa text 0 else None) ≡ is_some (found_by nfa text)
found_first nfa text first =
    first_place (λ i. if is_boundary text i then match_from nfa text i else None) (length text)
    (λ i late inside. none_if (is_boundary text i) _ (first text i late inside))

-- what is compiled from a pattern whose matches start at the start of a text begins first
pub begins_first : (nfa : Nfa) (re : Re) → Implements nfa re → IsAnchored true re → BeginsFirst nfa
begins_first nfa re implements anchored = λ text i late inside.
    none_of_no_value _ (λ t e.
    let c = attempt_sound text re accept i t (sym (implements text i) ∙ e) in
    let ends : c.at ≡ t.end = ap (λ (u : Trace). u.end) (same_Some _ _ c.gave) ∙ sym c.same_end in
    let zero : i ≡ 0 = anchored.at text i t.end inside (subst (Matches text re i) ends c.leads) in
    omega (arith, late, zero))
