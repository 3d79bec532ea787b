-- The answers of a reader of rows without unknown fields, from its answers with them.
use Rattle.std.proofs.Common.{◌≡◌, ℕ, ◌<◌, ◌^◌, List, length, Option, Some, Result, Ok, Err, inl, inr, ap, sym, subst, ◌∙◌}
use Rattle.am_wire.specs.declared.error.WireError.{WireError}
use Rattle.am_wire.specs.declared.reader.RowFault.{RowFault}
use Rattle.am_wire.specs.declared.reader.RowFault.TheVariants.{Read, Wire, TooLarge, Ended, Memory}
use Rattle.am_wire.specs.declared.reader.RowPosition.{RowPosition}
use Rattle.am_wire.specs.declared.reader.RowPosition.TheVariants.{Before, Over, Refused}
use Rattle.am_wire.specs.declared.unknown.Unknown.{Unknown}
use Rattle.am_wire.specs.declared.unknown.Unknown.TheVariants.{Drop, Keep}
use Rattle.am_wire.specs.Reader.{Answers}
use Rattle.am_wire.specs.Unknown.{plainly}

module _ {A : Type 0} (plain : A → A) (reads : Unknown → ℕ → List ℕ → Result A WireError)
    (dropped : (at : ℕ) (bytes : List ℕ) → reads Drop at bytes ≡ plainly plain (reads Keep at bytes)) where
  value_plain : (at : ℕ) (bytes : List ℕ) (v : A) → reads Keep at bytes ≡ Ok v → reads Drop at bytes ≡ Ok (plain v)
  value_plain at bytes v is = dropped at bytes ∙ ap (plainly plain) is

  fault_plain : (at : ℕ) (bytes : List ℕ) (e : WireError) → reads Keep at bytes ≡ Err e → reads Drop at bytes ≡ Err e
  fault_plain at bytes e is = dropped at bytes ∙ ap (plainly plain) is

  pub answers_value : (start : RowPosition) (bytes : List ℕ) (left : Option (List ℕ)) (v : A) (next : RowPosition)
      → Answers (reads Keep) start bytes left (Ok (Some v)) next → Answers (reads Drop) start bytes left (Ok (Some (plain v))) next
  answers_value (Before at limit) bytes left v next ((message, row, read), filled, within, is) =
      ((message, row, value_plain _ message v read), filled, within, is)
  answers_value Over bytes left v next (none, isnt, is) = absurd cc
  answers_value Refused bytes left v next (none, isnt, is) = absurd cc

  pub answers_fault : (start : RowPosition) (bytes : List ℕ) (left : Option (List ℕ)) (fault : RowFault) (next : RowPosition)
      → Answers (reads Keep) start bytes left (Err fault) next → Answers (reads Drop) start bytes left (Err fault) next
  answers_fault (Before at limit) bytes left (Wire e) next (inl stops, is) = (inl stops, is)
  answers_fault (Before at limit) bytes left (Wire e) next (inr ((message, row, read), within, other), is) =
      (inr ((message, row, fault_plain _ message e read), within, other), is)
  answers_fault (Before at limit) bytes left (Read k) next answer = answer
  answers_fault (Before at limit) bytes left TooLarge next answer = answer
  answers_fault (Before at limit) bytes left Ended next answer = answer
  answers_fault (Before at limit) bytes left Memory next answer = answer
  answers_fault Over bytes left fault next answer = answer
  answers_fault Refused bytes left fault next answer = answer

  -- what is written of a version is read again without unknown fields as the version without them
  pub plain_again : (writes : A → List ℕ) (IsValue : A → Type 0) → ((v : A) (at : ℕ) → IsValue v → length (writes v) < 2 ^ 64 → reads Keep at (writes v) ≡ Ok v)
      → (v read : A) (text : List ℕ) → text ≡ writes v → IsValue v → length text < 2 ^ 64 → reads Drop 0 text ≡ Ok read → read ≡ plain v
  plain_again writes IsValue again v read text is value small was =
      let of_text : reads Keep 0 text ≡ Ok v = subst (λ (t : List ℕ). reads Keep 0 t ≡ Ok v) (sym is) (again v 0 value (subst (λ (t : List ℕ). length t < 2 ^ 64) is small)) in
      let both : reads Drop 0 text ≡ Ok (plain v) = value_plain 0 text v of_text in
      cc
