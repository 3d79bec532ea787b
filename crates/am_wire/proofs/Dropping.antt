-- A message read without unknown fields, beside one read with them.
use Rattle.std.proofs.Common.{◌≡◌, Result, Ok, Err, sym, ap, ◌∙◌}
use Rattle.am_wire.specs.declared.error.WireError.{WireError}
use Rattle.am_wire.specs.Unknown.{plainly}

module _ {A : Type 0} (plain : A → A) where
  fault_from : (kept : Result A WireError) (e : WireError) → plainly plain kept ≡ Err e → kept ≡ Err e
  fault_from (Ok v) e h = absurd cc
  fault_from (Err d) e h = cc

  value_from : (kept : Result A WireError) (v : A) → plainly plain kept ≡ Ok v → (w : A) × (plain w ≡ v)
  value_from (Ok w) v h = (w, cc)
  value_from (Err d) v h = absurd cc

  module _ (dropped kept : Result A WireError) (alike : dropped ≡ plainly plain kept) where
    pub fault_kept : (e : WireError) → dropped ≡ Err e → kept ≡ Err e
    fault_kept e h = fault_from kept e (sym alike ∙ h)

    pub fault_dropped : (e : WireError) → kept ≡ Err e → dropped ≡ Err e
    fault_dropped e h = alike ∙ ap (plainly plain) h

    pub is_plain : ((v : A) → plain (plain v) ≡ plain v) → (v : A) → dropped ≡ Ok v → plain v ≡ v
    is_plain again v h =
        let (w, is) = value_from kept v (sym alike ∙ h) in
        ap plain (sym is) ∙ again w ∙ is
