-- One field more.
use Rattle.std.proofs.Common.{◌≡◌, ◌≢◌, ℕ, true, false, cond, eqb, List, [], ◌∷◌, ◌++◌, Some, None, map, refl, sym, ap, subst, ◌∙◌}
use Rattle.std.specs.Str.{IsUtf8, is_utf8}
use Rattle.std.proofs.lemmas.Bool.{eq-eqb, ne_eqb, eqb-false}
use Rattle.std.proofs.lemmas.Str.{IsUtf8-from_is_utf8}
use Rattle.std.proofs.lemmas.List.{append-nil}
use Rattle.std.proofs.lemmas.List.Concat.{flat_map-cons}
use Rattle.am_wire.specs.declared.error.WireError.TheVariants.{NotUtf8}
use Rattle.am_wire.specs.Fields.{FieldAt}
use Rattle.am_wire.specs.Reading.{Table, picked, last_or, parts_in, message_in, messages, delimited_place, delimited_given}
use Rattle.am_wire.specs.declared.parts.Submessage.{Submessage}
use Rattle.am_wire.specs.Parts.{IsPart}
use Rattle.am_wire.specs.RoundTrip.Slots.{picked-append}

pub text_is_at_fault : (at : ℕ) (bytes : List ℕ) → (IsUtf8 bytes → ⊥) → cond (is_utf8 bytes) None (Some (NotUtf8 at)) ≡ Some (NotUtf8 at)
text_is_at_fault at bytes broken =
    elim (is_utf8 bytes) as (λ b. is_utf8 bytes ≡ b → cond b None (Some (NotUtf8 at)) ≡ Some (NotUtf8 at)) [
      | true ↦ λ e. absurd (broken (IsUtf8-from_is_utf8 bytes e))
      | false ↦ λ e. refl
    ] refl

pub last_or-append : {A : Type 0} (d : A) (xs ys : List A) → last_or d (xs ++ ys) ≡ last_or (last_or d xs) ys
last_or-append d [] ys = refl
last_or-append d (x ∷ xs) ys = last_or-append x xs ys

module _ {A : Type 0} (view : FieldAt → List A) (n : ℕ) where
  -- the one more field has the number
  pub picked-here : (es : List FieldAt) (e : FieldAt) → e.number ≡ n → picked view n (es ++ e ∷ []) ≡ picked view n es ++ view e
  picked-here es e is =
      let one : picked view n (e ∷ []) ≡ view e = rw (flat_map-cons, eq-eqb e.number n is) (append-nil (view e)) in
      picked-append view n es (e ∷ []) ∙ ap (λ (x : List A). picked view n es ++ x) one

  -- it has another number
  pub picked-there : (es : List FieldAt) (e : FieldAt) → e.number ≢ n → picked view n (es ++ e ∷ []) ≡ picked view n es
  picked-there es e differs =
      let one : picked view n (e ∷ []) ≡ [] = rw (flat_map-cons, ne_eqb e.number n differs) refl in
      picked-append view n es (e ∷ []) ∙ ap (λ (x : List A). picked view n es ++ x) one ∙ append-nil (picked view n es)

  pub last-here : (d : A) (es : List FieldAt) (e : FieldAt) → e.number ≡ n → last_or (last_or d (picked view n es)) (view e) ≡ last_or d (picked view n (es ++ e ∷ []))
  last-here d es e is = sym (ap (last_or d) (picked-here es e is) ∙ last_or-append d (picked view n es) (view e))

  pub last-there : (d : A) (es : List FieldAt) (e : FieldAt) → e.number ≢ n → last_or d (picked view n es) ≡ last_or d (picked view n (es ++ e ∷ []))
  last-there d es e differs = sym (ap (last_or d) (picked-there es e differs))

  -- what counts of a number after one more field of it, or of another number m
  pub goes_here : (d : A) (es : List FieldAt) (e : FieldAt) (old later : A) → e.number ≡ n → old ≡ last_or d (picked view n es) → later ≡ last_or old (view e) → later ≡ last_or d (picked view n (es ++ e ∷ []))
  goes_here d es e old later is held put = put ∙ ap (λ (x : A). last_or x (view e)) held ∙ last-here d es e is

  pub goes_past : (m : ℕ) (d : A) (es : List FieldAt) (e : FieldAt) (old : A) → e.number ≡ m → eqb m n ≡ false → old ≡ last_or d (picked view n es) → old ≡ last_or d (picked view n (es ++ e ∷ []))
  goes_past m d es e old is other held = held ∙ last-there d es e (λ same. eqb-false m n other (sym is ∙ same))

-- ---- parts and lists of messages
module _ {D : Type 0} (holds : List FieldAt → D → Type 0) (table : Table) (n : ℕ) (es : List FieldAt) (e : FieldAt) (p : Submessage D) (h : IsPart holds table n es p) where
  pub part_here : (later : Submessage D) → e.number ≡ n
      → ((fs : List FieldAt) → holds fs p.draft → holds (fs ++ parts_in table e) later.draft)
      → later.at ≡ last_or p.at (delimited_place e) → later.given ≡ last_or p.given (delimited_given e) → IsPart holds table n (es ++ e ∷ []) later
  part_here later is draft place given = record {
    draft = subst (λ (x : List FieldAt). holds x later.draft) (sym (picked-here (parts_in table) n es e is)) (draft _ h.draft);
    place = goes_here delimited_place n 0 es e _ _ is h.place place;
    given = goes_here delimited_given n false es e _ _ is h.given given;
  }

  pub part_past : (m : ℕ) → e.number ≡ m → eqb m n ≡ false → IsPart holds table n (es ++ e ∷ []) p
  part_past m is other = record {
    draft = subst (λ (x : List FieldAt). holds x p.draft) (sym (picked-there (parts_in table) n es e (λ same. eqb-false m n other (sym is ∙ same)))) h.draft;
    place = goes_past delimited_place n m 0 es e _ is other h.place;
    given = goes_past delimited_given n m false es e _ is other h.given;
  }

module _ {A : Type 0} (value : List FieldAt → A) (table : Table) (n : ℕ) (es : List FieldAt) (e : FieldAt) (old : List A) (h : old ≡ map value (messages table n es)) where
  pub items_past : (m : ℕ) → e.number ≡ m → eqb m n ≡ false → old ≡ map value (messages table n (es ++ e ∷ []))
  items_past m is other = h ∙ sym (ap (λ (x : List (List FieldAt)). map value x) (picked-there (message_in table) n es e (λ same. eqb-false m n other (sym is ∙ same))))
