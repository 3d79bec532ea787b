-- The meaning of a message's bytes.
use Rattle.std.proofs.Common.{◌≡◌, ℕ, ◌+◌, true, List, [], ◌∷◌, ◌++◌, length, map, Option, Some, None, Result, Ok, Err, refl, sym, ap, subst, ◌∙◌, append_assoc, append-nil, inl, inr, ◌⊎◌}
use Rattle.std.specs.List.{All, AllPass}
use Rattle.std.proofs.lemmas.List.{map-append}
use Rattle.std.proofs.lemmas.List.Elements.{All-nil, All-cons, All-head, All-tail}
use Rattle.am_wire.specs.declared.error.WireError.{WireError}
use Rattle.am_wire.specs.Fields.{FieldAt, fields_of, field_at}
use Rattle.am_wire.specs.Grammar.{AreSpelled, IsField, AreFields, field_fits}
use Rattle.am_wire.specs.Faults.{IsFieldFault}
use Rattle.am_wire.specs.Reading.{Table, fields_in, faults_in, scan, sound_fields, fault_or_value, read_by, ◌then◌}
use Rattle.am_wire.specs.Messages.{AreSound, IsMessage, HasFaultInside, HasNoField, HasFault, FailsTests}
use Rattle.am_wire.specs.RoundTrip.Pieces.{done}
use Rattle.am_wire.specs.RoundTrip.Fields.{field_read}
use Rattle.am_wire.specs.RoundTrip.Puts.{sound_fields-done}
use Rattle.am_wire.proofs.Found.{IsTaken}
use Rattle.am_wire.proofs.Exact.{taken_from, fields_found, fields_read}
use Rattle.am_wire.proofs.Until.{Ends, pieces-then, pieces_end}
use Rattle.am_wire.proofs.Broken.{fields_until_found, fields_until_read}

-- ---- the first field inside which something is at fault
abbrev IsClean : (FieldAt → Option WireError) → FieldAt → Type 0
IsClean inside e = inside e ≡ None

record Unclean (inside : FieldAt → Option WireError) (es : List FieldAt) : Type 0 where
  before : List FieldAt
  field : FieldAt
  behind : List FieldAt
  fault : WireError
  are : es ≡ before ++ field ∷ behind
  clean : All (IsClean inside) before
  is : inside field ≡ Some fault

module _ (inside : FieldAt → Option WireError) where
  first_unclean : (es : List FieldAt) → All (IsClean inside) es ⊎ Unclean inside es
  first_unclean [] = inl (All-nil (IsClean inside))
  first_unclean (e ∷ es) =
      elim (inside e) as (λ o. inside e ≡ o → All (IsClean inside) (e ∷ es) ⊎ Unclean inside (e ∷ es)) [
        | None ↦ λ none. elim (first_unclean es) [
          | inl clean ↦ inl (All-cons (IsClean inside) e es none clean)
          | inr u ↦ inr (record {
            before = e ∷ u.before;
            field = u.field;
            behind = u.behind;
            fault = u.fault;
            are = ap (λ (xs : List FieldAt). e ∷ xs) u.are;
            clean = All-cons (IsClean inside) e u.before none u.clean;
            is = u.is;
          })
        ]
        | Some fault ↦ λ some. inr (record { before = []; field = e; behind = es; fault = fault; are = refl; clean = All-nil (IsClean inside); is = some })
      ] refl

  scan-clean : (es : List FieldAt) (items : List (Result FieldAt WireError)) → All (IsClean inside) es → scan inside (map done es ++ items) ≡ scan inside items
  scan-clean [] items h = refl
  scan-clean (e ∷ es) items h =
      ap (λ (f : Option WireError). f then scan inside (map done es ++ items)) (All-head (IsClean inside) e es h)
      ∙ scan-clean es items (All-tail (IsClean inside) e es h)

  scan-unclean : (es : List FieldAt) (items : List (Result FieldAt WireError)) (u : Unclean inside es) → scan inside (map done es ++ items) ≡ Some u.fault
  scan-unclean es items u =
      ap (λ (xs : List FieldAt). scan inside (map done xs ++ items)) u.are
      ∙ ap (λ (xs : List (Result FieldAt WireError)). scan inside (xs ++ items)) (map-append done u.before (u.field ∷ u.behind))
      ∙ ap (scan inside) (append_assoc (map done u.before) (map done (u.field ∷ u.behind)) items)
      ∙ scan-clean u.before (map done (u.field ∷ u.behind) ++ items) u.clean
      ∙ ap (λ (f : Option WireError). f then scan inside (map done u.behind ++ items)) u.is

-- ---- the front of a list
spelled_front : {A : Type 0} (Spells : A → ℕ → List ℕ → Type 0) (xs ys : List A) (at : ℕ) (bytes : List ℕ) → AreSpelled Spells (xs ++ ys) at bytes
    → (front : List ℕ) × (rest : List ℕ) × (bytes ≡ front ++ rest) × AreSpelled Spells xs at front
spelled_front Spells [] ys at bytes is = ([], bytes, refl, refl)
spelled_front Spells (x ∷ xs) ys at bytes (text, more, is, one, others) =
    let s = spelled_front Spells xs ys (at + length text) more others in
    (text ++ s.0, s.1, is ∙ ap (λ (t : List ℕ). text ++ t) s.2 ∙ sym (append_assoc text s.0 s.1), (text, s.0, refl, one, s.3))

all_front : {A : Type 0} (P : A → Type 0) (xs ys : List A) → All P (xs ++ ys) → All P xs
all_front P [] ys h = All-nil P
all_front P (x ∷ xs) ys h = All-cons P x xs (All-head P x (xs ++ ys) h) (all_front P xs ys (All-tail P x (xs ++ ys) h))

-- ---- answers
pub none_some : (e : WireError) → None ≡ Some e → ⊥
none_some e h = cc

pub some_is : (d e : WireError) → Some d ≡ Some e → d ≡ e
some_is d e h = cc

pub then_none : (f t : Option WireError) → (f then t) ≡ None → (f ≡ None) × (t ≡ None)
then_none None t h = (refl, h)
then_none (Some e) t h = absurd cc

pub then_some : (f t : Option WireError) (e : WireError) → (f then t) ≡ Some e → (f ≡ Some e) ⊎ ((f ≡ None) × (t ≡ Some e))
then_some None t e h = inr (refl, h)
then_some (Some d) t e h = inl h

value_given : {A : Type 0} (o : Option WireError) (x v : A) → fault_or_value o x ≡ Ok v → (o ≡ None) × (x ≡ v)
value_given None x v h = (refl, cc)
value_given (Some e) x v h = absurd cc

fault_given : {A : Type 0} (o : Option WireError) (x : A) (e : WireError) → fault_or_value o x ≡ Err e → o ≡ Some e
fault_given None x e h = absurd cc
fault_given (Some d) x e h = cc

-- ---- the fields of a message, and the first fault in them
module _ (table : Table) (at : ℕ) (bytes : List ℕ) where
  abbrev items : List (Result FieldAt WireError)
  items = fields_of table.fits at bytes

  ends : Ends items
  ends = pieces_end (field_at table.fits) 0 at bytes

  whole_items : (es : List FieldAt) → items ≡ map done es → items ≡ map done es ++ []
  whole_items es h = h ∙ sym (append-nil (map done es))

  -- what lies in one of the fields of a front
  fault_inside : (es : List FieldAt) (front rest : List ℕ) → AreFields es at front → AllPass (field_fits table.fits) es → bytes ≡ front ++ rest → (u : Unclean table.inside es) → HasFaultInside table u.fault at bytes
  fault_inside es front rest fields fit bytes_are u =
      let are : es ≡ (u.before ++ u.field ∷ []) ++ u.behind = u.are ∙ sym (append_assoc u.before (u.field ∷ []) u.behind) in
      let s = spelled_front IsField (u.before ++ u.field ∷ []) u.behind at front (subst (λ (xs : List FieldAt). AreFields xs at front) are fields) in
      record {
        before = u.before;
        field = u.field;
        front = s.0;
        rest = s.1 ++ rest;
        bytes_are = bytes_are ∙ ap (λ (t : List ℕ). t ++ rest) s.2 ∙ append_assoc s.0 s.1 rest;
        fields = s.3;
        fit = all_front (λ (e : FieldAt). field_fits table.fits e ≡ true) (u.before ++ u.field ∷ []) u.behind (subst (λ (xs : List FieldAt). AllPass (field_fits table.fits) xs) are fit);
        clean = u.clean;
        inside = u.is;
      }

  pub sound_read : (es : List FieldAt) → AreSound table es at bytes → (faults_in table at bytes ≡ None) × (fields_in table at bytes ≡ es)
  sound_read es is =
      let read = fields_read table.fits at bytes es is.fields is.fit in (
        ap (scan table.inside) (whole_items es read) ∙ scan-clean table.inside es [] is.clean,
        ap sound_fields read ∙ sound_fields-done es,
      )

  pub sound_found : faults_in table at bytes ≡ None → AreSound table (fields_in table at bytes) at bytes
  sound_found none =
      elim ends.1 [
        | inl whole ↦
            let is = fields_found table.fits at bytes ends.0 whole in
            elim (first_unclean table.inside ends.0) [
              | inl clean ↦
                  let sound : AreSound table ends.0 at bytes = record { fields = is.0; fit = is.1; clean = clean } in
                  subst (λ (es : List FieldAt). AreSound table es at bytes) (sym (sound_read ends.0 sound).1) sound
              | inr u ↦ absurd (none_some u.fault (sym none ∙ ap (scan table.inside) (whole_items ends.0 whole) ∙ scan-unclean table.inside ends.0 [] u))
            ]
        | inr faulty ↦
            elim (first_unclean table.inside ends.0) [
              | inl clean ↦ absurd (none_some faulty.0 (sym none ∙ ap (scan table.inside) faulty.1 ∙ scan-clean table.inside ends.0 (Err faulty.0 ∷ []) clean))
              | inr u ↦ absurd (none_some u.fault (sym none ∙ ap (scan table.inside) faulty.1 ∙ scan-unclean table.inside ends.0 (Err faulty.0 ∷ []) u))
            ]
      ]

  pub fault_found : (fault : WireError) → faults_in table at bytes ≡ Some fault → HasFault table fault at bytes
  fault_found fault some =
      elim ends.1 [
        | inl whole ↦
            let is = fields_found table.fits at bytes ends.0 whole in
            elim (first_unclean table.inside ends.0) [
              | inl clean ↦ absurd (none_some fault (sym (ap (scan table.inside) (whole_items ends.0 whole) ∙ scan-clean table.inside ends.0 [] clean) ∙ some))
              | inr u ↦
                  let same = some_is u.fault fault (sym (ap (scan table.inside) (whole_items ends.0 whole) ∙ scan-unclean table.inside ends.0 [] u) ∙ some) in
                  inl (subst (λ (e : WireError). HasFaultInside table e at bytes) same (fault_inside ends.0 bytes [] is.0 is.1 (sym (append-nil bytes)) u))
            ]
        | inr faulty ↦
            let is = fields_until_found table.fits at bytes ends.0 faulty.0 faulty.1 in
            elim (first_unclean table.inside ends.0) [
              | inl clean ↦
                  let same = some_is faulty.0 fault (sym (ap (scan table.inside) faulty.1 ∙ scan-clean table.inside ends.0 (Err faulty.0 ∷ []) clean) ∙ some) in
                  inr (subst (λ (e : WireError). HasNoField table e at bytes) same (record { before = ends.0; fields = is; clean = clean }))
              | inr u ↦
                  let same = some_is u.fault fault (sym (ap (scan table.inside) faulty.1 ∙ scan-unclean table.inside ends.0 (Err faulty.0 ∷ []) u) ∙ some) in
                  inl (subst (λ (e : WireError). HasFaultInside table e at bytes) same (fault_inside ends.0 is.0.front is.0.rest is.0.spelled is.1 is.0.bytes_are u))
            ]
      ]

  pub fault_read : (fault : WireError) → HasFault table fault at bytes → faults_in table at bytes ≡ Some fault
  fault_read fault (inl is) =
      let es : List FieldAt = is.before ++ is.field ∷ [] in
      let behind : List (Result FieldAt WireError) = fields_of table.fits (at + length is.front) is.rest in
      let read : items ≡ map done es ++ behind =
      ap (fields_of table.fits at) is.bytes_are
      ∙ pieces-then (field_at table.fits) (IsTaken table.fits) (IsFieldFault table.fits) (λ e p text h. field_read table.fits e p text h.0 h.1) es at is.front is.rest (taken_from table.fits es at is.front is.fields is.fit) in
      let u : Unclean table.inside es = record { before = is.before; field = is.field; behind = []; fault = fault; are = refl; clean = is.clean; is = is.inside } in
      ap (scan table.inside) read ∙ scan-unclean table.inside es behind u
  fault_read fault (inr is) =
      ap (scan table.inside) (fields_until_read table.fits at bytes is.before fault is.fields) ∙ scan-clean table.inside is.before (Err fault ∷ []) is.clean

-- ---- the message
module _ {A : Type 0} (table : Table) (tests : ℕ → List FieldAt → Option WireError) (value : List FieldAt → A) (place at : ℕ) (bytes : List ℕ) where
  abbrev all : List FieldAt
  all = fields_in table at bytes

  abbrev answer : Option WireError → A → Result A WireError
  answer o x = fault_or_value o x

  pub message_found : (v : A) → read_by table tests value place at bytes ≡ Ok v → IsMessage table tests value place at bytes v
  message_found v h =
      let j = value_given (faults_in table at bytes then tests place all) (value all) v h in
      let t = then_none (faults_in table at bytes) (tests place all) j.0 in
      record { fields = all; sound = sound_found table at bytes t.0; passes = t.1; value_is = j.1 }

  -- reading sound fields
  sound_answer : (es : List FieldAt) → AreSound table es at bytes → read_by table tests value place at bytes ≡ answer (tests place es) (value es)
  sound_answer es is =
      let s = sound_read table at bytes es is in
      ap (λ (o : Option WireError). answer (o then tests place all) (value all)) s.0
      ∙ ap (λ (fs : List FieldAt). answer (tests place fs) (value fs)) s.1

  pub message_read : (v : A) → IsMessage table tests value place at bytes v → read_by table tests value place at bytes ≡ Ok v
  message_read v is =
      sound_answer is.fields is.sound ∙ ap (λ (o : Option WireError). answer o (value is.fields)) is.passes ∙ ap (λ (x : A). answer None x) is.value_is

  pub failure_found : (fault : WireError) → read_by table tests value place at bytes ≡ Err fault → HasFault table fault at bytes ⊎ FailsTests table tests fault place at bytes
  failure_found fault h =
      let j = fault_given (faults_in table at bytes then tests place all) (value all) fault h in
      elim (then_some (faults_in table at bytes) (tests place all) fault j) [
        | inl some ↦ inl (fault_found table at bytes fault some)
        | inr t ↦ inr (record { fields = all; sound = sound_found table at bytes t.0; fails = t.1 })
      ]

  pub failure_read : (fault : WireError) → HasFault table fault at bytes ⊎ FailsTests table tests fault place at bytes → read_by table tests value place at bytes ≡ Err fault
  failure_read fault (inl is) = ap (λ (o : Option WireError). answer (o then tests place all) (value all)) (fault_read table at bytes fault is)
  failure_read fault (inr is) = sound_answer is.fields is.sound ∙ ap (λ (o : Option WireError). answer o (value is.fields)) is.fails
