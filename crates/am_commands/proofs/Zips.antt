-- Pairs of two lists, one more.
use Rattle.std.proofs.Common.{◌≡◌, ℕ, ◌+◌, ◌<◌, List, [], ◌∷◌, ◌++◌, length, get_or, take, sym, subst, arith}
use Rattle.std.specs.List.{AllZip}
use Rattle.std.proofs.lemmas.List.{take_more, length-append}
use Rattle.am_commands.proofs.ReadSources.{zip_push}

pub zip_more : {A B : Type 0} (R : A → B → Type 0) (xs : List A) (ys : List B) (i : ℕ) (d : A) (y : B) → i < length xs
    → AllZip R (take i xs) ys × (length ys ≡ i) → R (get_or xs i d) y → AllZip R (take (i + 1) xs) (ys ++ y ∷ []) × (length (ys ++ y ∷ []) ≡ i + 1)
zip_more R xs ys i d y within before here = (
  subst (λ zs. AllZip R zs (ys ++ y ∷ [])) (sym (take_more xs i d within)) (zip_push R (take i xs) ys (get_or xs i d) y before.0 here),
  omega (arith, length-append ys (y ∷ []), before.1),
)
