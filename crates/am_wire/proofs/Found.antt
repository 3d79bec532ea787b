-- Each reading is spelled by its bytes.
use Rattle.std.proofs.Common.{◌≡◌, ℕ, ◌+◌, ◌*◌, ◌/◌, ◌%◌, ◌^◌, ◌<◌, ◌≤◌, Bool, ltb, eqb, true, false, cond, ◌&&◌, List, [], ◌∷◌, length, map, take, drop, length-drop, Result, Ok, Err, refl, sym, ap, subst, ◌∙◌, arith}
use Rattle.std.specs.Int.{w32, w64, from_le_bytes}
use Rattle.std.proofs.lemmas.Bool.{eqb-true, ltb-true, ltb-false, and_parts}
use Rattle.std.proofs.lemmas.List.{take-append-drop, length-take-le}
use Rattle.std.proofs.Math.Seq.{take-add}
use Rattle.am_wire.specs.Limits.{most}
use Rattle.am_wire.specs.declared.error.WireError.{WireError}
use Rattle.am_wire.specs.declared.error.WireError.TheVariants.{Truncated, FieldNumber, WrongType, TooLarge}
use Rattle.am_wire.specs.declared.error.WireError.TheVariants as errors
use Rattle.am_wire.specs.declared.value.WireType.{WireType}
use Rattle.am_wire.specs.declared.value.WireType.TheVariants as kinds
use Rattle.am_wire.specs.Varint.{IsVarint, varint_at}
use Rattle.am_wire.specs.Fields.{FieldAt, Payload, varint, eight, four, delimited_at, ◌>>=◌, field_at, payload_at, number_at, payload_behind_length, tag_number, kind_of, next_piece, pieces, row_at}
use Rattle.am_wire.specs.Grammar.{AreSpelled, IsPayload, IsField, IsRow, wire_type_of, wire_code, field_fits}
use Rattle.am_wire.specs.RoundTrip.Pieces.{done, pieces-first}
use Rattle.am_wire.specs.RoundTrip.Varints.{varint_filled}
use Rattle.am_wire.proofs.Spelled.{read_spells, varint_found}

-- x is spelled by the first bytes
pub record Finds {A : Type 0} (Says : A → ℕ → List ℕ → Type 0) (x : A) (at len : ℕ) (bytes : List ℕ) : Type 0 where
  pub filled : 0 < len
  pub within : len ≤ length bytes
  pub says : Says x at (take len bytes)

abbrev pub ok : {A : Type 0} → A → Result A WireError
ok x = Ok x

pub ok_is : {A : Type 0} (x y : A) → ok x ≡ ok y → x ≡ y
ok_is x y e = cc

pub err_ok : {A : Type 0} (e : WireError) (y : A) → Err e ≡ ok y → ⊥
err_ok e y h = cc

-- a step of a chain of `?`
bind_ok : {A B : Type 0} (r : Result A WireError) (f : A → Result B WireError) (y : B) → (r >>= f) ≡ Ok y → (x : A) × (r ≡ Ok x) × (f x ≡ Ok y)
bind_ok (Ok x) f y h = (x, refl, h)
bind_ok (Err e) f y h = absurd (err_ok e y h)

-- a test before an answer
when_ok : {A : Type 0} (b : Bool) (e : WireError) (r : Result A WireError) (y : A) → cond b (Err e) r ≡ Ok y → (b ≡ false) × (r ≡ Ok y)
when_ok true e r y h = absurd (err_ok e y h)
when_ok false e r y h = (refl, h)

-- ---- pieces
module _ {A : Type 0} (others : ℕ → List (Result A WireError)) where
  never_empty : (r : Result (A × ℕ) WireError) → next_piece others r ≡ [] → ⊥
  never_empty (Ok x) h = absurd cc
  never_empty (Err e) h = absurd cc

  pub first_ok : (r : Result (A × ℕ) WireError) (x : A) (rest : List (Result A WireError)) → next_piece others r ≡ ok x ∷ rest → (y : A × ℕ) × (r ≡ Ok y) × (y.0 ≡ x)
  first_ok (Ok y) x rest h = (y, refl, cc)
  first_ok (Err e) x rest h = absurd cc

pub cons_rest : {A : Type 0} (x y : A) (xs ys : List A) → x ∷ xs ≡ y ∷ ys → xs ≡ ys
cons_rest x y xs ys h = cc

module _ {A : Type 0} (front : ℕ → List ℕ → Result (A × ℕ) WireError) (Says : A → ℕ → List ℕ → Type 0) (finds : (at : ℕ) (bytes : List ℕ) (y : A × ℕ) → front at bytes ≡ Ok y → Finds Says y.0 at y.1 bytes) where
  pub pieces_found : (xs : List A) (at : ℕ) (bytes : List ℕ) → pieces front 0 at bytes ≡ map done xs → AreSpelled Says xs at bytes
  unfolding pieces
  pieces_found [] at [] h = refl
  pieces_found [] at (b ∷ bytes) h = absurd (never_empty (λ skip. pieces front skip (at + 1) bytes) (front at (b ∷ bytes)) h)
  pieces_found (x ∷ xs) at [] h = absurd cc
  pieces_found (x ∷ xs) at (b ∷ bytes) h =
      let all : List ℕ = b ∷ bytes in
      let f = first_ok (λ skip. pieces front skip (at + 1) bytes) (front at all) x (map done xs) h in
      let len : ℕ = f.0.1 in
      let one = finds at all f.0 f.1 in
      let others : pieces front 0 (at + len) (drop len all) ≡ map done xs = cons_rest (ok f.0.0) (ok x) _ _ (sym (pieces-first front at all f.0 f.1 one.filled one.within) ∙ h) in
      let size : len ≡ length (take len all) = sym (length-take-le len all one.within) in (
        take len all,
        drop len all,
        sym (take-append-drop len all),
        subst (λ (y : A). Says y at (take len all)) f.2 one.says,
        subst (λ (n : ℕ). AreSpelled Says xs (at + n) (drop len all)) size (pieces_found xs (at + len) (drop len all) others),
      )

-- ---- numbers
abbrev pub IsNumber : ℕ → ℕ → List ℕ → Type 0
IsNumber n at text = IsVarint text n

pub number_found : (tag at : ℕ) (bytes : List ℕ) (y : ℕ × ℕ) → varint_at tag bytes ≡ Ok y → Finds IsNumber y.0 at y.1 bytes
number_found tag at bytes y h =
    let s = read_spells tag 9 bytes y h in
    let says = varint_found tag bytes y h in
    let filled = varint_filled _ _ says in
    record { filled = omega (arith, filled, length-take-le y.1 bytes s.within); within = s.within; says = says }

-- ---- fields
pub tag_number_found : (at n m : ℕ) → tag_number at n ≡ Ok m → (n ≡ m) × (0 < n) × (n < 2 ^ 29)
unfolding tag_number
tag_number_found at n m h =
    elim (ltb 0 n && ltb n (2 ^ 29)) as (λ b. (ltb 0 n && ltb n (2 ^ 29)) ≡ b → cond b (Ok n) (Err (FieldNumber at)) ≡ Ok m → (n ≡ m) × (0 < n) × (n < 2 ^ 29)) [
      | true ↦ λ t e. let p = and_parts _ _ t in (ok_is n m e, ltb-true _ _ p.0, ltb-true _ _ p.1)
      | false ↦ λ t e. absurd (err_ok (FieldNumber at) m e)
    ] refl h

pub kind_of_found : (at n : ℕ) (kind : WireType) → kind_of at n ≡ Ok kind → n ≡ wire_code kind
unfolding kind_of
kind_of_found at n kind h =
    let none : Result WireType WireError = Err (errors.WireType at) in
    let four_or : Result WireType WireError = cond (eqb n 5) (Ok kinds.Four) none in
    let bytes_or : Result WireType WireError = cond (eqb n 2) (Ok kinds.Bytes) four_or in
    let eight_or : Result WireType WireError = cond (eqb n 1) (Ok kinds.Eight) bytes_or in
    step n 0 kinds.Varint kind eight_or refl h (λ h1. step n 1 kinds.Eight kind bytes_or refl h1 (λ h2. step n 2 kinds.Bytes kind four_or refl h2 (λ h5. step n 5 kinds.Four kind none refl h5 (λ e. absurd (err_ok (errors.WireType at) kind e)))))
  where
    step : (n code : ℕ) (this kind : WireType) (others : Result WireType WireError) → wire_code this ≡ code → cond (eqb n code) (Ok this) others ≡ Ok kind → (others ≡ Ok kind → n ≡ wire_code kind) → n ≡ wire_code kind
    step n code this kind others is h next =
        elim (eqb n code) as (λ b. eqb n code ≡ b → cond b (Ok this) others ≡ Ok kind → n ≡ wire_code kind) [
          | true ↦ λ t e. eqb-true _ _ t ∙ sym is ∙ ap wire_code (ok_is this kind e)
          | false ↦ λ t e. next e
        ] refl h

record FindsPayload (kind : WireType) (p : Payload) (start len : ℕ) (bytes : List ℕ) : Type 0 where
  kind_is : wire_type_of p ≡ kind
  within : len ≤ length bytes
  is : IsPayload p start (take len bytes)

abbrev IsPiece : WireType → ℕ → List ℕ → Payload × ℕ → Type 0
IsPiece kind start bytes x = FindsPayload kind x.0 start x.1 bytes

payload_found : (kind : WireType) (at start : ℕ) (bytes : List ℕ) (x : Payload × ℕ) → payload_at kind at start bytes ≡ Ok x → IsPiece kind start bytes x
unfolding payload_at number_at payload_behind_length
payload_found kinds.Varint at start bytes x h =
    let v = bind_ok (varint_at at bytes) (λ n. ok (varint n.0, n.1)) x h in
    let n = number_found at start bytes v.0 v.1 in
    subst (IsPiece kinds.Varint start bytes) (ok_is _ _ v.2) (record { kind_is = refl; within = n.within; is = n.says })
payload_found kinds.Eight at start bytes x h =
    let w = when_ok (ltb (length bytes) 8) (Truncated at) (ok (eight (from_le_bytes w64 (take 8 bytes)), 8)) x h in
    let le = ltb-false _ _ w.0 in
    subst (IsPiece kinds.Eight start bytes) (ok_is _ _ w.1) (record { kind_is = refl; within = le; is = (length-take-le 8 bytes le, refl) })
payload_found kinds.Four at start bytes x h =
    let w = when_ok (ltb (length bytes) 4) (Truncated at) (ok (four (from_le_bytes w32 (take 4 bytes)), 4)) x h in
    let le = ltb-false _ _ w.0 in
    subst (IsPiece kinds.Four start bytes) (ok_is _ _ w.1) (record { kind_is = refl; within = le; is = (length-take-le 4 bytes le, refl) })
payload_found kinds.Bytes at start bytes x h =
    let v = bind_ok (varint_at at bytes) (λ n. cond (ltb (length (drop n.1 bytes)) n.0) (Err (Truncated at)) (ok (delimited_at (start + n.1) (take n.0 (drop n.1 bytes)), n.1 + n.0))) x h in
    let size : ℕ = v.0.0 in
    let len : ℕ = v.0.1 in
    let rest : List ℕ = drop len bytes in
    let w = when_ok (ltb (length rest) size) (Truncated at) (ok (delimited_at (start + len) (take size rest), len + size)) x v.2 in
    let le = ltb-false _ _ w.0 in
    let n = number_found at start bytes v.0 v.1 in
    let inner : length (take size rest) ≡ size = length-take-le size rest le in
    let outer : length (take len bytes) ≡ len = length-take-le len bytes n.within in
    subst (IsPiece kinds.Bytes start bytes) (ok_is _ _ w.1) (record {
      kind_is = refl;
      within = omega (arith, le, n.within, length-drop len bytes);
      is = record { size = take len bytes; size_is = subst (λ (k : ℕ). IsVarint (take len bytes) k) (sym inner) n.says; text_is = take-add len size bytes; inside_is = ap (λ (k : ℕ). start + k) (sym outer) };
    })

abbrev pub IsTaken : (ℕ → WireType → Bool) → FieldAt → ℕ → List ℕ → Type 0
IsTaken fits e at text = IsField e at text × (field_fits fits e ≡ true)

module _ (fits : ℕ → WireType → Bool) (at : ℕ) (bytes : List ℕ) where
  abbrev field : ℕ → Payload → FieldAt
  field n p = record { number = n; payload = p; at = at }

  -- the steps of `field_at`
  abbrev after_payload : ℕ × ℕ → ℕ → Payload × ℕ → Result (FieldAt × ℕ) WireError
  after_payload tag n p = Ok (field n p.0, tag.1 + p.1)

  abbrev after_kind : ℕ × ℕ → ℕ → WireType → Result (FieldAt × ℕ) WireError
  after_kind tag n kind = cond (fits n kind) (payload_at kind at (at + tag.1) (drop tag.1 bytes) >>= after_payload tag n) (Err (WrongType at))

  abbrev after_number : ℕ × ℕ → ℕ → Result (FieldAt × ℕ) WireError
  after_number tag n = kind_of at (tag.0 % 8) >>= after_kind tag n

  abbrev after_tag : ℕ × ℕ → Result (FieldAt × ℕ) WireError
  after_tag tag = tag_number at (tag.0 / 8) >>= after_number tag

  fit_ok : (b : Bool) (r : Result (FieldAt × ℕ) WireError) (y : FieldAt × ℕ) → cond b r (Err (WrongType at)) ≡ Ok y → (b ≡ true) × (r ≡ Ok y)
  fit_ok true r y h = (refl, h)
  fit_ok false r y h = absurd (err_ok (WrongType at) y h)

  pub field_found : (y : FieldAt × ℕ) → field_at fits at bytes ≡ Ok y → Finds (IsTaken fits) y.0 at y.1 bytes
  unfolding field_at
  field_found y h =
      let t = bind_ok (varint_at at bytes) after_tag y h in
      let tag : ℕ = t.0.0 in
      let len : ℕ = t.0.1 in
      let n = bind_ok (tag_number at (tag / 8)) (after_number t.0) y t.2 in
      let k = bind_ok (kind_of at (tag % 8)) (after_kind t.0 n.0) y n.2 in
      let f = fit_ok (fits n.0 k.0) (payload_at k.0 at (at + len) (drop len bytes) >>= after_payload t.0 n.0) y k.2 in
      let p = bind_ok (payload_at k.0 at (at + len) (drop len bytes)) (after_payload t.0 n.0) y f.1 in
      let size : ℕ = p.0.1 in
      let number = tag_number_found at (tag / 8) n.0 n.1 in
      let kind = kind_of_found at (tag % 8) k.0 k.1 in
      let first = number_found at at bytes t.0 t.1 in
      let second = payload_found k.0 at (at + len) (drop len bytes) p.0 p.1 in
      let outer : length (take len bytes) ≡ len = length-take-le len bytes first.within in
      let code : wire_code (wire_type_of p.0.0) ≡ tag % 8 = ap wire_code second.kind_is ∙ sym kind in
      let tag_is : tag ≡ n.0 * 8 + wire_code (wire_type_of p.0.0) = omega (arith, number.0, code) in
      let is : IsField (field n.0 p.0.0) at (take (len + size) bytes) = record {
        tag = take len bytes;
        payload = take size (drop len bytes);
        text_is = take-add len size bytes;
        at_is = refl;
        above_none = rw (← number.0) number.1;
        below_all = rw (← number.0) number.2;
        tag_is = subst (λ (m : ℕ). IsVarint (take len bytes) m) tag_is first.says;
        payload_is = subst (λ (i : ℕ). IsPayload p.0.0 (at + i) (take size (drop len bytes))) (sym outer) second.is;
      } in
      let fit : fits n.0 (wire_type_of p.0.0) ≡ true = ap (fits n.0) second.kind_is ∙ f.0 in
      subst (λ (x : FieldAt × ℕ). Finds (IsTaken fits) x.0 at x.1 bytes) (ok_is _ _ p.2) (record {
        filled = omega (arith, first.filled);
        within = omega (arith, second.within, first.within, length-drop len bytes);
        says = (is, fit);
      })

-- ---- rows
pub row_found : (at : ℕ) (bytes : List ℕ) (y : List ℕ × ℕ) → row_at at bytes ≡ Ok y → Finds IsRow y.0 at y.1 bytes
unfolding row_at
row_found at bytes y h =
    let v = bind_ok (varint_at at bytes) (λ n. cond (ltb most n.0) (Err TooLarge) (cond (ltb (length (drop n.1 bytes)) n.0) (Err (Truncated at)) (ok (take n.0 (drop n.1 bytes), n.1 + n.0)))) y h in
    let size : ℕ = v.0.0 in
    let len : ℕ = v.0.1 in
    let rest : List ℕ = drop len bytes in
    let w = when_ok (ltb most size) TooLarge (cond (ltb (length rest) size) (Err (Truncated at)) (ok (take size rest, len + size))) y v.2 in
    let x = when_ok (ltb (length rest) size) (Truncated at) (ok (take size rest, len + size)) y w.1 in
    let small = ltb-false _ _ w.0 in
    let le = ltb-false _ _ x.0 in
    let first = number_found at at bytes v.0 v.1 in
    let inner : length (take size rest) ≡ size = length-take-le size rest le in
    subst (λ (z : List ℕ × ℕ). Finds IsRow z.0 at z.1 bytes) (ok_is _ _ x.1) (record {
      filled = omega (arith, first.filled);
      within = omega (arith, le, first.within, length-drop len bytes);
      says = record { size = take len bytes; size_is = subst (λ (k : ℕ). IsVarint (take len bytes) k) (sym inner) first.says; text_is = take-add len size bytes; not_large = omega (arith, inner, small) };
    })
