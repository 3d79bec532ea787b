-- Each moment of a run of steps, and the steps behind it.
use Rattle.std.proofs.Common.{inl, inr, ⊎_elim, ℕ, List, arith}
use Rattle.am_store.specs.Device.{LeavesOnly}

module _ {D : Type 0} (moment : D → ℕ) (left_since : D → ℕ → List ℕ → Type 0) where
  pub weaker : (old new : D) (P Q : List ℕ → Type 0) → LeavesOnly moment left_since old new P → ((c : List ℕ) → P c → Q c) → LeavesOnly moment left_since old new Q
  weaker old new P Q leaves then = record {
    later = leaves.later;
    each = λ c left. then c (leaves.each c left);
    before = λ t c le left. ⊎_elim (λ was. inl was) (λ p. inr (then c p)) (leaves.before t c le left);
  }

  -- one step, and then another
  pub goes_on : (old mid new : D) (P : List ℕ → Type 0) → LeavesOnly moment left_since old mid P → LeavesOnly moment left_since mid new P → LeavesOnly moment left_since old new P
  goes_on old mid new P first second = record {
    later = omega (arith, first.later, second.later);
    each = λ c left. ⊎_elim (first.each c) (λ p. p) (second.before (moment old) c first.later left);
    before = λ t c le left. ⊎_elim (first.before t c le) (λ p. inr p) (second.before t c (omega (arith, le, first.later)) left);
  }
