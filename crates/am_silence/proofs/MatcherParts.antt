-- A matcher's text, part by part.
use Rattle.std.proofs.Common.{◌≡◌, ◌≢◌, ℕ, ◌+◌, ◌-◌, ◌<◌, ◌≤◌, ◌==◌, ◌⊎◌, eqb, true, false, Option, inl, inr, List, [], ◌∷◌, ◌++◌, length, length-append, append-nil, append_assoc, take, drop, get_or, Some, if◌then◌else◌, refl, sym, ap, subst, ◌∙◌, arith}
use Rattle.std.specs.Prelude.{slice_get}
use Rattle.std.proofs.lemmas.Bool.{ne_eqb, eqb-true}
use Rattle.std.proofs.lemmas.Option.{none-some}
use Rattle.std.proofs.lemmas.List.{take_rest}
use Rattle.am_wire.specs.Varint.{shortest, groups}
use Rattle.am_wire.specs.Writing.{delimited, writes_number, writes_text}
use Rattle.am_wire.specs.Offsets.{Follows}
use Rattle.am_silence.specs.declared.matcher.Matcher.{Matcher}
use Rattle.am_silence.specs.declared.matcher.MatcherKind.{MatcherKind}
use Rattle.am_silence.specs.declared.matcher.MatcherKind.TheVariants as kinds
use Rattle.am_silence.specs.Kinds.{kind_code, kind_of}
use Rattle.am_silence.specs.RoundTrip.{kind_again}
use Rattle.am_silence.specs.Matchers.{writes_matcher}
use Rattle.am_silence.specs.MatcherTexts.{IsMatcherText, Leads}
use Rattle.am_silence.proofs.MatcherTexts.{tag_2, tag_3}

-- ---- the texts behind the kind
-- a text behind its tag, or nothing
abbrev optional : ℕ → List ℕ → List ℕ
optional t text = if length text == 0 then [] else t ∷ delimited text

abbrev texts : Matcher → List ℕ
texts m = writes_text 2 m.name ++ writes_text 3 m.pattern

name_text : (text : List ℕ) → writes_text 2 text ≡ optional 18 text
name_text text = ap (λ (t : List ℕ). if length text == 0 then [] else t ++ delimited text) tag_2

pattern_text : (text : List ℕ) → writes_text 3 text ≡ optional 26 text
pattern_text text = ap (λ (t : List ℕ). if length text == 0 then [] else t ++ delimited text) tag_3

-- one that is not empty is not left out
some_text : (t b : ℕ) (bs : List ℕ) → optional t (b ∷ bs) ≡ t ∷ delimited (b ∷ bs)
some_text t b bs = let some : eqb (length (b ∷ bs)) 0 ≡ false = ne_eqb _ _ (λ e. omega (arith, e)) in rw some refl

optional_length : (t : ℕ) (text : List ℕ) → length text ≤ length (optional t text)
optional_length t [] = omega arith
optional_length t (b ∷ bs) = omega (arith, ap length (some_text t b bs), length-append (shortest (length (b ∷ bs))) (b ∷ bs))

-- the byte in front of a text, or none
abbrev front_of : List ℕ → Option ℕ
front_of text = slice_get text 0

other_tag : (s t : ℕ) (text : List ℕ) → s ≢ t → front_of (optional s text) ≢ Some t
other_tag s t [] other e = none-some t e
other_tag s t (b ∷ bs) other e =
    let both : Some s ≡ Some t = sym (ap front_of (some_text s b bs)) ∙ e in
    other cc

-- what follows the kind begins with no 8
texts_front : (name pattern : List ℕ) → get_or (optional 18 name ++ optional 26 pattern) 0 0 ≢ 8
texts_front [] [] e = omega (arith, e)
texts_front [] (b ∷ bs) e = omega (arith, sym (ap (λ (x : List ℕ). get_or x 0 0) (some_text 26 b bs)) ∙ e)
texts_front (b ∷ bs) pattern e = omega (arith, sym (ap (λ (x : List ℕ). get_or (x ++ optional 26 pattern) 0 0) (some_text 18 b bs)) ∙ e)

-- ---- the kind
-- the kind is left out, or it stands in two bytes
kind_text : (k : MatcherKind) → ((kinds.Equal ≡ k) × (writes_number 1 (kind_code k) ≡ [])) ⊎ (writes_number 1 (kind_code k) ≡ 8 ∷ kind_code k ∷ [])
unfolding groups
kind_text kinds.Equal = inl (refl, refl)
kind_text kinds.Regexp = inr refl
kind_text kinds.NotEqual = inr refl
kind_text kinds.NotRegexp = inr refl

module _ (m : Matcher) (text : List ℕ) (is : text ≡ writes_matcher m) where
  parts : text ≡ writes_number 1 (kind_code m.kind) ++ texts m
  unfolding writes_matcher
  parts = is ∙ append_assoc (writes_number 1 (kind_code m.kind)) (writes_text 2 m.name) (writes_text 3 m.pattern)

  front : texts m ≡ optional 18 m.name ++ optional 26 m.pattern
  front = rw (name_text m.name, pattern_text m.pattern) refl

  left_out : (kinds.Equal ≡ m.kind) × (writes_number 1 (kind_code m.kind) ≡ []) → (kinds.Equal ≡ m.kind) × (text ≡ texts m)
  left_out h = (h.0, parts ∙ ap (λ (t : List ℕ). t ++ texts m) h.1)

  given : writes_number 1 (kind_code m.kind) ≡ 8 ∷ kind_code m.kind ∷ [] → text ≡ 8 ∷ kind_code m.kind ∷ texts m
  given h = parts ∙ ap (λ (t : List ℕ). t ++ texts m) h

  pub kind_short : length text < 2 → (kinds.Equal ≡ m.kind) × (text ≡ texts m)
  kind_short short = elim (kind_text m.kind) [
    | inl h ↦ left_out h
    | inr h ↦ absurd (omega (arith, short, ap length (given h)))
  ]

  pub kind_untold : get_or text 0 0 ≢ 8 → (kinds.Equal ≡ m.kind) × (text ≡ texts m)
  kind_untold other = elim (kind_text m.kind) [
    | inl h ↦ left_out h
    | inr h ↦ absurd (other (ap (λ (t : List ℕ). get_or t 0 0) (given h)))
  ]

  pub kind_told : get_or text 0 0 ≡ 8 → (kind_of (get_or text 1 0) ≡ m.kind) × (drop 2 text ≡ texts m)
  kind_told first = elim (kind_text m.kind) [
    | inl h ↦ absurd (texts_front m.name m.pattern (ap (λ (t : List ℕ). get_or t 0 0) (sym ((left_out h).1 ∙ front)) ∙ first))
    | inr h ↦ (ap (λ (t : List ℕ). kind_of (get_or t 1 0)) (given h) ∙ kind_again m.kind, ap (drop 2) (given h))
  ]

-- ---- both texts of a matcher
module _ {text : List ℕ} {m : Matcher} (h : IsMatcherText text m) where
  lengths : length text ≡ length (writes_number 1 (kind_code m.kind)) + (length (optional 18 m.name) + length (optional 26 m.pattern))
  lengths = ap length (parts m text h.is) ∙ length-append (writes_number 1 (kind_code m.kind)) (texts m)
      ∙ ap (λ (n : ℕ). length (writes_number 1 (kind_code m.kind)) + n) (ap length (front m text h.is) ∙ length-append (optional 18 m.name) (optional 26 m.pattern))

  pub name_leads : {bytes : List ℕ} → bytes ≡ texts m → Leads 18 m.name (writes_text 3 m.pattern) bytes
  name_leads e = record {
    is = e ∙ ap (λ (t : List ℕ). t ++ writes_text 3 m.pattern) (name_text m.name);
    value = h.value.name;
    short = omega (arith, lengths, h.short, optional_length 18 m.name);
    apart = subst (λ (t : List ℕ). slice_get t 0 ≢ Some 18) (sym (pattern_text m.pattern)) (other_tag 26 18 m.pattern (λ e. omega (arith, e)));
  }

  pub pattern_leads : {bytes : List ℕ} → bytes ≡ writes_text 3 m.pattern → Leads 26 m.pattern [] bytes
  pattern_leads e = record {
    is = e ∙ pattern_text m.pattern ∙ sym (append-nil (optional 26 m.pattern));
    value = h.value.pattern;
    short = omega (arith, lengths, h.short, optional_length 26 m.pattern);
    apart = none-some 26;
  }

-- ---- a text that leads
module _ {t : ℕ} {text rest bytes : List ℕ} (h : Leads t text rest bytes) where
  -- it is left out where its tag doesn't stand in front
  pub text_left_out : front_of bytes ≢ Some t → ([] ≡ text) × (bytes ≡ rest)
  text_left_out other = by_text text h.is
    where
      by_text : (own : List ℕ) → bytes ≡ optional t own ++ rest → ([] ≡ own) × (bytes ≡ rest)
      by_text [] is = (refl, is)
      by_text (b ∷ bs) is = absurd (other (ap front_of (is ∙ ap (λ (x : List ℕ). x ++ rest) (some_text t b bs))))

  -- and else it stands behind it
  pub text_given : front_of bytes ≡ Some t → bytes ≡ t ∷ (delimited text ++ rest)
  text_given first = by_text text h.is
    where
      by_text : (own : List ℕ) → bytes ≡ optional t own ++ rest → bytes ≡ t ∷ (delimited own ++ rest)
      by_text [] is = absurd (h.apart (ap front_of (sym is) ∙ first))
      by_text (b ∷ bs) is = is ∙ ap (λ (x : List ℕ). x ++ rest) (some_text t b bs)

  abbrev pub text_follows : front_of bytes ≡ Some t → Follows 0 text (take (length bytes - 1) (drop 1 bytes))
  text_follows first = record {
    rest = rest;
    within = omega arith;
    short = h.short;
    is = take_rest bytes 1 ∙ ap (drop 1) (text_given first) ∙ append_assoc (shortest (length text)) text rest;
  }

-- ---- the byte in front
pub front_is : (bytes : List ℕ) (t : ℕ) → false ≡ eqb (length bytes) 0 → get_or bytes 0 0 ≡ t → front_of bytes ≡ Some t
front_is [] t some e = absurd cc
front_is (b ∷ bs) t some e = ap Some e

pub front_not : (bytes : List ℕ) (t : ℕ) → get_or bytes 0 0 ≢ t → front_of bytes ≢ Some t
front_not [] t other e = none-some t e
front_not (b ∷ bs) t other e = other cc

pub no_front : (bytes : List ℕ) (t : ℕ) → true ≡ eqb (length bytes) 0 → front_of bytes ≢ Some t
no_front [] t none e = none-some t e
no_front (b ∷ bs) t none e = absurd (ne_eqb-absurd none)
  where
    ne_eqb-absurd : true ≡ eqb (length (b ∷ bs)) 0 → ⊥
    ne_eqb-absurd h = let z : length (b ∷ bs) ≡ 0 = eqb-true _ _ (sym h) in omega (arith, z)
