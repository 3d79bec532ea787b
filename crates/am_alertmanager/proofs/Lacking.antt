-- The versions of a map that pass a test, one by one.
use Rattle.std.proofs.Common.{◌≡◌, Bool, true, false, List, [], ◌∷◌, ◌++◌, sym, ap, ◌∙◌, append_assoc, refl}
use Rattle.std.specs.Prelude.{filter}

module _ {X : Type 0} (test : X → Bool) (v : X) (rest front whole : List X) (so_far : front ++ filter test (v ∷ rest) ≡ whole) where
  -- one that passes stands behind those before it
  pub one_more : test v ≡ true → (front ++ v ∷ []) ++ filter test rest ≡ whole
  one_more passes =
      let one : filter test (v ∷ rest) ≡ v ∷ filter test rest = rw passes refl in
      append_assoc front (v ∷ []) (filter test rest) ∙ ap (λ (xs : List X). front ++ xs) (sym one) ∙ so_far

  -- one that doesn't is left out
  pub one_less : test v ≡ false → front ++ filter test rest ≡ whole
  one_less fails =
      let one : filter test (v ∷ rest) ≡ filter test rest = rw fails refl in
      ap (λ (xs : List X). front ++ xs) (sym one) ∙ so_far
