-- The place of a text in a list.
use Rattle.std.proofs.Common.{◌≡◌, ◌↔◌, ℕ, zero, suc, ◌+◌, ◌<◌, ltb, Bool, true, false, List, [], ◌∷◌, length, get_or, Option, Some, None, Contains, refl, sym, ap, ◌∙◌, arith}
use Rattle.std.specs.Prelude.{position, slice_get}
use Rattle.std.specs.List.{position_or_len}
use Rattle.std.specs.Str.{bytes_eq}
use Rattle.std.proofs.lemmas.Bool.{lt-ltb}
use Rattle.std.proofs.lemmas.List.Quantifiers.{position-Some}
use Rattle.std.proofs.lemmas.Option.{slice_get-get_or, slice_get_within, get_or_from_slice_get}
use Rattle.std.specs.Ordering.{nat_cmp, is_eq}
use Rattle.std.specs.Cmp.Lexicographic.{slice_cmp}
use Rattle.std.specs.declared.cmp.Ordering.TheVariants.{Less}
use Rattle.std.proofs.lemmas.Map.Text.{is_eq-slice_cmp}
use Rattle.std.proofs.lemmas.List.Elements.{All-from_recursion}
use Rattle.am_instance.specs.Configs.{AreInOrder}
use Rattle.std.proofs.lemmas.Slice.Eq.{bytes_eq-Decides}

abbrev nothing : Option ℕ
nothing = None

module _ (p : List ℕ → Bool) (x : List ℕ) (xs : List (List ℕ)) where
  first_is : p x ≡ true → position_or_len p (x ∷ xs) < length (x ∷ xs)
  first_is is = rw is (omega arith)

  one_more : (b : Bool) → p x ≡ b → (b ≡ false → position_or_len p xs < length xs) → position_or_len p (x ∷ xs) < length (x ∷ xs)
  one_more true is later = first_is is
  one_more false is later = let more = later refl in rw is (omega (arith, more))

  at_first : p x ≡ true → position_or_len p (x ∷ xs) ≡ 0
  at_first is = rw is refl

  at_later : p x ≡ false → position_or_len p (x ∷ xs) ≡ 1 + position_or_len p xs
  at_later is = rw is (omega arith)

module _ (name : List ℕ) where
  abbrev pub is_name : List ℕ → Bool
  is_name text = bytes_eq text name

  -- the text at the place that was found is the name
  found : (texts : List (List ℕ)) (i : ℕ) → position is_name texts ≡ Some i → (i < length texts) × (get_or texts i name ≡ name)
  found texts i is =
      let here = position-Some is_name texts i name is in
      (here.0, (bytes_eq-Decides (get_or texts i name) name).0 here.1)

  pub stands_there : (texts : List (List ℕ)) (i : ℕ) → position is_name texts ≡ Some i → slice_get texts i ≡ Some name
  stands_there texts i is =
      let here = found texts i is in
      slice_get-get_or texts i name here.0 ∙ ap (λ (text : List ℕ). Some text) here.1

  -- a name that is there is found
  within : (texts : List (List ℕ)) (k : ℕ) → k < length texts → get_or texts k name ≡ name → position_or_len is_name texts < length texts
  within [] k below is = absurd (omega (arith, below))
  within (text ∷ texts) zero below is = first_is is_name text texts ((bytes_eq-Decides text name).1 is)
  within (text ∷ texts) (suc k) below is = one_more is_name text texts (is_name text) refl (λ other. within texts k (omega (arith, below)) is)

  none_then : (texts : List (List ℕ)) → position is_name texts ≡ None → ¬ Contains texts name
  none_then texts none there =
      let t : ltb (position_or_len is_name texts) (length texts) ≡ true = lt-ltb _ _ (within texts there.0 there.1 there.2) in
      let some = rw t at none in
      absurd cc

  pub some_is : (texts : List (List ℕ)) (i : ℕ) → position is_name texts ≡ Some i → (Some i ≡ None) ↔ (¬ Contains texts name)
  some_is texts i is =
      let here = found texts i is in
      ((λ none. absurd cc), (λ nowhere. absurd (nowhere (i, here.0, here.1))))

  pub none_is : (texts : List (List ℕ)) → position is_name texts ≡ None → (nothing ≡ None) ↔ (¬ Contains texts name)
  none_is texts is = ((λ none. none_then texts is), (λ nowhere. refl))

  -- ---- names in order
  apart : (text : List ℕ) → slice_cmp nat_cmp text name ≡ Less → is_name text ≡ false
  apart text less = sym (is_eq-slice_cmp text name) ∙ ap is_eq less

  at_place : (texts : List (List ℕ)) (k : ℕ) → AreInOrder texts → k < length texts → get_or texts k name ≡ name → position_or_len is_name texts ≡ k
  at_place [] k order below is = absurd (omega (arith, below))
  at_place (text ∷ texts) zero order below is = let t : is_name text ≡ true = (bytes_eq-Decides text name).1 is in at_first is_name text texts t
  at_place (text ∷ texts) (suc k) order below is =
      let behind = at_place texts k order.1 (omega (arith, below)) is in
      let each = All-from_recursion (λ other. slice_cmp nat_cmp text other ≡ Less) texts order.0 in
      let less : slice_cmp nat_cmp text (get_or texts k name) ≡ Less = each k name (omega (arith, below)) in
      let other : is_name text ≡ false = apart text (ap (slice_cmp nat_cmp text) (sym is) ∙ less) in
      at_later is_name text texts other ∙ (omega (arith, behind))

  pub found_again : (texts : List (List ℕ)) (k : ℕ) → AreInOrder texts → slice_get texts k ≡ Some name → position is_name texts ≡ Some k
  found_again texts k order here =
      let below = slice_get_within texts k name here in
      let place = at_place texts k order below (get_or_from_slice_get texts k name name here) in
      let t : ltb k (length texts) ≡ true = lt-ltb _ _ below in
      rw (place, t) refl
