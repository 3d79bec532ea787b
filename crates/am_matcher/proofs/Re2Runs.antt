-- A run at the front of a text.
use Rattle.std.proofs.Common.{◌≡◌, ◌∙◌, ℕ, Bool, List, length, take, ap}
use Rattle.std.proofs.lemmas.List.Folds.{length-prefix_len}
use Rattle.am_matcher.specs.Re2Pieces.{run}

-- so many characters as it has are the run
pub taken : (test : ℕ → Bool) (text : List ℕ) (n : ℕ) → n ≡ length (run test text) → take n text ≡ run test text
taken test text n is = ap (λ (k : ℕ). take k text) (is ∙ length-prefix_len test text)
