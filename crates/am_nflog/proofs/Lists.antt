-- One field more: of those that were read, and of those that are written.
use Rattle.std.proofs.Common.{◌≡◌, ℕ, false, eqb, List, [], ◌∷◌, ◌++◌, append_assoc, sym, ap, ◌∙◌}
use Rattle.std.proofs.lemmas.Bool.{eqb-false}
use Rattle.am_wire.specs.Fields.{FieldAt}
use Rattle.am_wire.specs.Reading.{numbers_in, all_numbers}
use Rattle.am_wire.proofs.Picked.{picked-there}

-- the field has another number
pub list_past : (n m : ℕ) (es : List FieldAt) (e : FieldAt) (old : List ℕ) → e.number ≡ m → eqb m n ≡ false → old ≡ all_numbers n es → old ≡ all_numbers n (es ++ e ∷ [])
list_past n m es e old is other held = held ∙ sym (picked-there numbers_in n es e (λ same. eqb-false m n other (sym is ∙ same)))

-- what is put behind a text, in two steps
pub put_behind : (a b c x y : List ℕ) → b ≡ a ++ x → c ≡ b ++ y → c ≡ a ++ (x ++ y)
put_behind a b c x y first second = second ∙ ap (λ (l : List ℕ). l ++ y) first ∙ append_assoc a x y
