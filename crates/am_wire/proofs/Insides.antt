-- Faults inside a field of bytes.
use Rattle.std.proofs.Common.{◌≡◌, ℕ, Bool, true, false, cond, List, [], ◌∷◌, map, Option, Some, None, refl, sym, ap, subst, ◌∙◌, inl, inr, ◌⊎◌}
use Rattle.std.specs.Str.{IsUtf8, is_utf8}
use Rattle.std.proofs.lemmas.Str.{IsUtf8-from_is_utf8, is_utf8-from_IsUtf8}
use Rattle.am_wire.specs.declared.error.WireError.{WireError}
use Rattle.am_wire.specs.declared.error.WireError.TheVariants.{NotUtf8}
use Rattle.am_wire.specs.Fields.{FieldAt}
use Rattle.am_wire.specs.Grammar.{ArePacked}
use Rattle.am_wire.specs.Faults.{ArePackedUntil}
use Rattle.am_wire.specs.Reading.{Table, fields_in, faults_in, text_fault, item_fault, numbers_fault, first_fault, ◌then◌}
use Rattle.am_wire.specs.Messages.{AreSound, HasFault, FailsTests, bytes_field}
use Rattle.am_wire.specs.RoundTrip.Pieces.{done}
use Rattle.am_wire.proofs.Exact.{numbers_read}
use Rattle.am_wire.proofs.Until.{until}
use Rattle.am_wire.proofs.Broken.{numbers_until_read, numbers_always}
use Rattle.am_wire.proofs.Meanings.{none_some, some_is, then_none, then_some, sound_found, sound_read, fault_found, fault_read}

first_fault-whole : (xs : List ℕ) → first_fault (map done xs) ≡ None
first_fault-whole [] = refl
first_fault-whole (x ∷ xs) = first_fault-whole xs

first_fault-until : (xs : List ℕ) (e : WireError) → first_fault (until xs e) ≡ Some e
first_fault-until [] e = refl
first_fault-until (x ∷ xs) e = first_fault-until xs e

module _ (n at inside : ℕ) (bytes : List ℕ) where
  abbrev field : FieldAt
  field = bytes_field n at inside bytes

  abbrev some : WireError → Option WireError
  some e = Some e

  abbrev told : Bool → Option WireError
  told b = cond b None (Some (NotUtf8 at))

  -- ---- texts
  pub text_clean : text_fault field ≡ None → IsUtf8 bytes
  text_clean h =
      elim (is_utf8 bytes) as (λ b. is_utf8 bytes ≡ b → told b ≡ None → IsUtf8 bytes) [
        | true ↦ λ t k. IsUtf8-from_is_utf8 bytes t
        | false ↦ λ t k. absurd (none_some (NotUtf8 at) (sym k))
      ] refl h

  pub text_read : IsUtf8 bytes → text_fault field ≡ None
  text_read h = ap told (is_utf8-from_IsUtf8 bytes h)

  pub text_fault_found : (fault : WireError) → text_fault field ≡ Some fault → (fault ≡ NotUtf8 at) × (IsUtf8 bytes → ⊥)
  text_fault_found fault h =
      elim (is_utf8 bytes) as (λ b. is_utf8 bytes ≡ b → told b ≡ Some fault → (fault ≡ NotUtf8 at) × (IsUtf8 bytes → ⊥)) [
        | true ↦ λ t k. absurd (none_some fault k)
        | false ↦ λ t k. (sym (some_is _ _ k), λ is. none_some fault (sym (text_read is) ∙ h))
      ] refl h

  pub text_fault_read : (fault : WireError) → (fault ≡ NotUtf8 at) × (IsUtf8 bytes → ⊥) → text_fault field ≡ Some fault
  text_fault_read fault (is, broken) =
      elim (is_utf8 bytes) as (λ b. is_utf8 bytes ≡ b → told b ≡ Some fault) [
        | true ↦ λ t. absurd (broken (IsUtf8-from_is_utf8 bytes t))
        | false ↦ λ t. ap some (sym is)
      ] refl

  -- ---- one of many messages
  module _ (table : Table) (tests : ℕ → List FieldAt → Option WireError) where
    abbrev all : List FieldAt
    all = fields_in table inside bytes

    pub item_clean : item_fault table tests field ≡ None → (es : List FieldAt) × AreSound table es inside bytes × (tests at es ≡ None)
    item_clean h =
        let t = then_none (faults_in table inside bytes) (tests at all) h in
        (all, sound_found table inside bytes t.0, t.1)

    item_answer : (es : List FieldAt) → AreSound table es inside bytes → item_fault table tests field ≡ tests at es
    item_answer es is =
        let s = sound_read table inside bytes es is in
        ap (λ (o : Option WireError). o then tests at all) s.0 ∙ ap (tests at) s.1

    pub item_read : (es : List FieldAt) × AreSound table es inside bytes × (tests at es ≡ None) → item_fault table tests field ≡ None
    item_read (es, is, passes) = item_answer es is ∙ passes

    pub item_fault_found : (fault : WireError) → item_fault table tests field ≡ Some fault → HasFault table fault inside bytes ⊎ FailsTests table tests fault at inside bytes
    item_fault_found fault h =
        elim (then_some (faults_in table inside bytes) (tests at all) fault h) [
          | inl some ↦ inl (fault_found table inside bytes fault some)
          | inr t ↦ inr (record { fields = all; sound = sound_found table inside bytes t.0; fails = t.1 })
        ]

    pub item_fault_read : (fault : WireError) → HasFault table fault inside bytes ⊎ FailsTests table tests fault at inside bytes → item_fault table tests field ≡ Some fault
    item_fault_read fault (inl is) = ap (λ (o : Option WireError). o then tests at all) (fault_read table inside bytes fault is)
    item_fault_read fault (inr is) = item_answer is.fields is.sound ∙ is.fails

  -- ---- packed numbers
  pub numbers_clean : numbers_fault field ≡ None → (numbers : List ℕ) × ArePacked numbers bytes
  numbers_clean h =
      let end = numbers_always at bytes in
      elim end.1 [
        | inl whole ↦ (end.0, whole)
        | inr faulty ↦ absurd (none_some faulty.0 (sym h ∙ ap first_fault (numbers_until_read at bytes end.0 faulty.0 faulty.1) ∙ first_fault-until end.0 faulty.0))
      ]

  pub numbers_clean_read : (numbers : List ℕ) × ArePacked numbers bytes → numbers_fault field ≡ None
  numbers_clean_read (numbers, is) = ap first_fault (numbers_read at bytes numbers is) ∙ first_fault-whole numbers

  pub numbers_fault_found : (fault : WireError) → numbers_fault field ≡ Some fault → (numbers : List ℕ) × ArePackedUntil at numbers fault bytes
  numbers_fault_found fault h =
      let end = numbers_always at bytes in
      elim end.1 [
        | inl whole ↦ absurd (none_some fault (sym (numbers_clean_read (end.0, whole)) ∙ h))
        | inr faulty ↦
            let same = some_is faulty.0 fault (sym (ap first_fault (numbers_until_read at bytes end.0 faulty.0 faulty.1) ∙ first_fault-until end.0 faulty.0) ∙ h) in
            (end.0, subst (λ (e : WireError). ArePackedUntil at end.0 e bytes) same faulty.1)
      ]

  pub numbers_fault_read : (fault : WireError) → (numbers : List ℕ) × ArePackedUntil at numbers fault bytes → numbers_fault field ≡ Some fault
  numbers_fault_read fault (numbers, is) = ap first_fault (numbers_until_read at bytes numbers fault is) ∙ first_fault-until numbers fault
