-- The fronts at which no number, no field and no message of a row is read, and why.
use Rattle.std.proofs.Common.{◌≡◌, ◌≢◌, ℕ, zero, suc, ◌+◌, ◌*◌, ◌/◌, ◌%◌, ◌^◌, ◌<◌, Bool, ltb, eqb, true, false, cond, List, length, take, drop, Result, Ok, Err, refl, sym, ap, subst, ◌∙◌, take-append-drop, arith, inl, inr, ◌⊎◌}
use Rattle.std.specs.Int.{w32, w64, from_le_bytes}
use Rattle.std.proofs.lemmas.Bool.{eqb-false, lt-ltb, le-ltb, ltb-true, ltb-false, cases_lt}
use Rattle.std.proofs.lemmas.List.{drop_at}
use Rattle.am_wire.specs.Limits.{most}
use Rattle.am_wire.specs.declared.error.WireError.{WireError}
use Rattle.am_wire.specs.declared.error.WireError.TheVariants.{Truncated, LongVarint, FieldNumber, WrongType, TooLarge}
use Rattle.am_wire.specs.declared.error.WireError.TheVariants as errors
use Rattle.am_wire.specs.declared.value.WireType.{WireType}
use Rattle.am_wire.specs.declared.value.WireType.TheVariants as kinds
use Rattle.am_wire.specs.Varint.{IsVarint, varint_at}
use Rattle.am_wire.specs.Fields.{FieldAt, Payload, varint, eight, four, delimited_at, ◌>>=◌, field_at, payload_at, number_at, payload_behind_length, tag_number, kind_of, row_at}
use Rattle.am_wire.specs.Grammar.{wire_code}
use Rattle.am_wire.specs.Faults.{EndsInNumber, HasLongNumber, IsNumberFault, HasNumber, HasTag, IsFieldNumber, IsNoFieldNumber, IsNoWireType, EndsInPayload, HasLongPayload, HasPayload, IsFieldFault, IsRowFault}
use Rattle.am_wire.specs.RoundTrip.Varints.{varint_read}
use Rattle.am_wire.proofs.Found.{Finds, ok, err_ok, IsNumber, number_found, tag_number_found, kind_of_found}
use Rattle.am_wire.proofs.Faults.{cut_found, cut_fails, long_found, long_fails, fault_is}

abbrev fail : {A : Type 0} → WireError → Result A WireError
fail e = Err e

err_is : {A : Type 0} (d e : WireError) → fail {A = A} d ≡ fail e → d ≡ e
err_is d e h = cc

-- a step of a chain of `?`
bind_err : {A B : Type 0} (r : Result A WireError) (f : A → Result B WireError) (e : WireError) → (r >>= f) ≡ Err e → (r ≡ Err e) ⊎ ((x : A) × (r ≡ Ok x) × (f x ≡ Err e))
bind_err {A} {B} (Ok x) f e h = inr (x, refl, h)
bind_err {A} {B} (Err d) f e h = inl (ap fail (err_is {A = B} d e h))

-- a test before an answer
when_err : {A : Type 0} (b : Bool) (d : WireError) (r : Result A WireError) (e : WireError) → cond b (Err d) r ≡ Err e → ((b ≡ true) × (d ≡ e)) ⊎ ((b ≡ false) × (r ≡ Err e))
when_err {A} true d r e h = inl (refl, err_is {A = A} d e h)
when_err false d r e h = inr (refl, h)

-- ---- numbers
pub number_fault_found : (at : ℕ) (bytes : List ℕ) (e : WireError) → varint_at at bytes ≡ Err e → IsNumberFault at bytes e
number_fault_found at bytes e h =
    elim (fault_is at 9 bytes e h) [
      | inl is ↦
          let cut = cut_found at 9 bytes (h ∙ ap fail is) in
          subst (IsNumberFault at bytes) (sym is) (refl, (omega (arith, cut.few), cut.go_on))
      | inr is ↦
          let long = long_found at 9 bytes (h ∙ ap fail is) in
          subst (IsNumberFault at bytes) (sym is) (refl, (long.enough, long.go_on, long.much))
    ]

pub number_fails : (at : ℕ) (bytes : List ℕ) (e : WireError) → IsNumberFault at bytes e → varint_at at bytes ≡ Err e
number_fails at bytes (Truncated place) h =
    cut_fails at 9 bytes (record { few = omega (arith, h.1.0); go_on = h.1.1 }) ∙ ap (λ (p : ℕ). fail (Truncated p)) (sym h.0)
number_fails at bytes (LongVarint place) h =
    long_fails at 9 bytes (record { enough = h.1.0; go_on = h.1.1; much = h.1.2 }) ∙ ap (λ (p : ℕ). fail (LongVarint p)) (sym h.0)
number_fails at bytes e h = absurd h

ends_fails : (at : ℕ) (bytes : List ℕ) → EndsInNumber bytes → varint_at at bytes ≡ Err (Truncated at)
ends_fails at bytes h = number_fails at bytes (Truncated at) (refl, h)

long_number_fails : (at : ℕ) (bytes : List ℕ) → HasLongNumber bytes → varint_at at bytes ≡ Err (LongVarint at)
long_number_fails at bytes h = number_fails at bytes (LongVarint at) (refl, h)

-- a number at the front, as it is read and as it stands
has_number : {Says : ℕ → List ℕ → Type 0} (at : ℕ) (bytes : List ℕ) (x : ℕ × ℕ) → Finds IsNumber x.0 at x.1 bytes → Says x.0 (drop x.1 bytes) → HasNumber Says bytes
has_number at bytes x n says = record { number = x.0; text = take x.1 bytes; behind = drop x.1 bytes; bytes_are = sym (take-append-drop x.1 bytes); text_is = n.says; says = says }

module _ (at : ℕ) (bytes : List ℕ) {Says : ℕ → List ℕ → Type 0} (is : HasNumber Says bytes) where
  front_is : varint_at at bytes ≡ Ok (is.number, length is.text)
  front_is = ap (varint_at at) is.bytes_are ∙ varint_read at is.number is.text is.behind is.text_is

  behind_is : drop (length is.text) bytes ≡ is.behind
  behind_is = ap (drop (length is.text)) is.bytes_are ∙ drop_at is.text is.behind (length is.text) refl

-- ---- rows
module _ (at : ℕ) (bytes : List ℕ) where
  abbrev in_limit : ℕ × ℕ → Result (List ℕ × ℕ) WireError
  in_limit n = cond (ltb (length (drop n.1 bytes)) n.0) (Err (Truncated at)) (ok (take n.0 (drop n.1 bytes), n.1 + n.0))

  abbrev after_size : ℕ × ℕ → Result (List ℕ × ℕ) WireError
  after_size n = cond (ltb most n.0) (Err TooLarge) (in_limit n)

  row_from_number : (e : WireError) → IsNumberFault at bytes e → IsRowFault at bytes e
  row_from_number (Truncated place) h = (h.0, inl h.1)
  row_from_number (LongVarint place) h = h
  row_from_number e h = absurd h

  pub row_fault_found : (e : WireError) → row_at at bytes ≡ Err e → IsRowFault at bytes e
  unfolding row_at
  row_fault_found e h =
      elim (bind_err (varint_at at bytes) after_size e h) [
        | inl v ↦ row_from_number e (number_fault_found at bytes e v)
        | inr v ↦
            let n = number_found at at bytes v.0 v.1 in
            elim (when_err (ltb most v.0.0) TooLarge (in_limit v.0) e v.2) [
              | inl large ↦ subst (IsRowFault at bytes) large.1 (has_number at bytes v.0 n (ltb-true _ _ large.0))
              | inr small ↦
                  elim (when_err (ltb (length (drop v.0.1 bytes)) v.0.0) (Truncated at) (ok (take v.0.0 (drop v.0.1 bytes), v.0.1 + v.0.0)) e small.1) [
                    | inl few ↦ subst (IsRowFault at bytes) few.1 (refl, inr (has_number at bytes v.0 n (ltb-false _ _ small.0, ltb-true _ _ few.0)))
                    | inr whole ↦ absurd (err_ok e (take v.0.0 (drop v.0.1 bytes), v.0.1 + v.0.0) (sym whole.1))
                  ]
            ]
      ]

  pub row_fails : (e : WireError) → IsRowFault at bytes e → row_at at bytes ≡ Err e
  unfolding row_at
  row_fails (Truncated place) h =
      let moved : fail {A = List ℕ × ℕ} (Truncated at) ≡ fail (Truncated place) = ap (λ (p : ℕ). fail (Truncated p)) (sym h.0) in
      elim h.1 [
        | inl ends ↦ rw (ends_fails at bytes ends) moved
        | inr is ↦
            let sized = front_is at bytes is in
            let small : ltb most is.number ≡ false = le-ltb _ _ is.says.0 in
            let cut = behind_is at bytes is in
            let few : ltb (length is.behind) is.number ≡ true = lt-ltb _ _ is.says.1 in
            rw (sized, small, cut, few) moved
      ]
  row_fails (LongVarint place) h =
      let moved : fail {A = List ℕ × ℕ} (LongVarint at) ≡ fail (LongVarint place) = ap (λ (p : ℕ). fail (LongVarint p)) (sym h.0) in
      rw (long_number_fails at bytes h.1) moved
  row_fails TooLarge is =
      let sized = front_is at bytes is in
      let large : ltb most is.number ≡ true = lt-ltb _ _ is.says in
      rw (sized, large) refl
  row_fails e h = absurd h

-- ---- payloads
-- why no payload of the wire type stands at the front
abbrev IsPayloadFault : WireType → ℕ → List ℕ → WireError → Type 0
IsPayloadFault kind at bytes (Truncated place) = (place ≡ at) × EndsInPayload kind bytes
IsPayloadFault kind at bytes (LongVarint place) = (place ≡ at) × HasLongPayload kind bytes
IsPayloadFault kind at bytes fault = ⊥

module _ (at : ℕ) (bytes : List ℕ) where
  varint_from_number : (e : WireError) → IsNumberFault at bytes e → IsPayloadFault kinds.Varint at bytes e
  varint_from_number (Truncated place) h = h
  varint_from_number (LongVarint place) h = h
  varint_from_number e h = absurd h

  delimited_from_number : (e : WireError) → IsNumberFault at bytes e → IsPayloadFault kinds.Bytes at bytes e
  delimited_from_number (Truncated place) h = (h.0, inl h.1)
  delimited_from_number (LongVarint place) h = h
  delimited_from_number e h = absurd h

  module _ (start : ℕ) where
    abbrev after_length : ℕ × ℕ → Result (Payload × ℕ) WireError
    after_length n = cond (ltb (length (drop n.1 bytes)) n.0) (Err (Truncated at)) (ok (delimited_at (start + n.1) (take n.0 (drop n.1 bytes)), n.1 + n.0))

    abbrev fixed : Payload → ℕ → Result (Payload × ℕ) WireError
    fixed p size = Ok (p, size)

    fixed_fault : (kind : WireType) (size : ℕ) (p : Payload) (e : WireError) → (length bytes < size → EndsInPayload kind bytes)
        → cond (ltb (length bytes) size) (Err (Truncated at)) (fixed p size) ≡ Err e → IsPayloadFault kind at bytes e
    fixed_fault kind size p e ends h =
        elim (when_err (ltb (length bytes) size) (Truncated at) (fixed p size) e h) [
          | inl few ↦ subst (IsPayloadFault kind at bytes) few.1 (refl, ends (ltb-true _ _ few.0))
          | inr whole ↦ absurd (err_ok e (p, size) (sym whole.1))
        ]

    payload_fault_found : (kind : WireType) (e : WireError) → payload_at kind at start bytes ≡ Err e → IsPayloadFault kind at bytes e
    unfolding payload_at number_at payload_behind_length
    payload_fault_found kinds.Varint e h =
        elim (bind_err (varint_at at bytes) (λ n. ok (varint n.0, n.1)) e h) [
          | inl v ↦ varint_from_number e (number_fault_found at bytes e v)
          | inr v ↦ absurd (err_ok e (varint v.0.0, v.0.1) (sym v.2))
        ]
    payload_fault_found kinds.Eight e h = fixed_fault kinds.Eight 8 (eight (from_le_bytes w64 (take 8 bytes))) e (λ few. few) h
    payload_fault_found kinds.Four e h = fixed_fault kinds.Four 4 (four (from_le_bytes w32 (take 4 bytes))) e (λ few. few) h
    payload_fault_found kinds.Bytes e h =
        elim (bind_err (varint_at at bytes) after_length e h) [
          | inl v ↦ delimited_from_number e (number_fault_found at bytes e v)
          | inr v ↦
              let n = number_found at at bytes v.0 v.1 in
              elim (when_err (ltb (length (drop v.0.1 bytes)) v.0.0) (Truncated at) (ok (delimited_at (start + v.0.1) (take v.0.0 (drop v.0.1 bytes)), v.0.1 + v.0.0)) e v.2) [
                | inl few ↦ subst (IsPayloadFault kinds.Bytes at bytes) few.1 (refl, inr (has_number at bytes v.0 n (ltb-true _ _ few.0)))
                | inr whole ↦ absurd (err_ok e (delimited_at (start + v.0.1) (take v.0.0 (drop v.0.1 bytes)), v.0.1 + v.0.0) (sym whole.1))
              ]
        ]

    payload_ends : (kind : WireType) → EndsInPayload kind bytes → payload_at kind at start bytes ≡ Err (Truncated at)
    unfolding payload_at number_at payload_behind_length
    payload_ends kinds.Varint h = rw (ends_fails at bytes h) refl
    payload_ends kinds.Eight h = let few : ltb (length bytes) 8 ≡ true = lt-ltb _ _ h in rw few refl
    payload_ends kinds.Four h = let few : ltb (length bytes) 4 ≡ true = lt-ltb _ _ h in rw few refl
    payload_ends kinds.Bytes h =
        elim h [
          | inl ends ↦ rw (ends_fails at bytes ends) refl
          | inr is ↦
              let sized = front_is at bytes is in
              let cut = behind_is at bytes is in
              let few : ltb (length is.behind) is.number ≡ true = lt-ltb _ _ is.says in
              rw (sized, cut, few) refl
        ]

    payload_long : (kind : WireType) → HasLongPayload kind bytes → payload_at kind at start bytes ≡ Err (LongVarint at)
    unfolding payload_at number_at payload_behind_length
    payload_long kinds.Varint h = rw (long_number_fails at bytes h) refl
    payload_long kinds.Bytes h = rw (long_number_fails at bytes h) refl
    payload_long kinds.Eight h = absurd h
    payload_long kinds.Four h = absurd h

-- ---- fields
module _ (fits : ℕ → WireType → Bool) (at : ℕ) where
  -- what is read behind a tag of so many bytes
  module _ (len number code : ℕ) (behind : List ℕ) where
    abbrev field : ℕ → Payload → FieldAt
    field n p = record { number = n; payload = p; at = at }

    abbrev after_payload : ℕ → Payload × ℕ → Result (FieldAt × ℕ) WireError
    after_payload n p = Ok (field n p.0, len + p.1)

    abbrev after_fit : ℕ → WireType → Result (FieldAt × ℕ) WireError
    after_fit n kind = payload_at kind at (at + len) behind >>= after_payload n

    abbrev after_kind : ℕ → WireType → Result (FieldAt × ℕ) WireError
    after_kind n kind = cond (fits n kind) (after_fit n kind) (Err (WrongType at))

    abbrev after_number : ℕ → Result (FieldAt × ℕ) WireError
    after_number n = kind_of at code >>= after_kind n

    abbrev after_tag : Result (FieldAt × ℕ) WireError
    after_tag = tag_number at number >>= after_number

  -- what stands behind a tag at the front is read
  tag_read : {Says : ℕ → ℕ → List ℕ → Type 0} (bytes : List ℕ) (is : HasTag Says bytes) → field_at fits at bytes ≡ after_tag (length is.text) is.number is.code is.behind
  unfolding field_at
  tag_read bytes is =
      let small = is.code_is in
      let tag : varint_at at bytes ≡ Ok (is.number * 8 + is.code, length is.text) = ap (varint_at at) is.bytes_are ∙ varint_read at (is.number * 8 + is.code) is.text is.behind is.text_is in
      let cut : drop (length is.text) bytes ≡ is.behind = ap (drop (length is.text)) is.bytes_are ∙ drop_at is.text is.behind (length is.text) refl in
      let number : (is.number * 8 + is.code) / 8 ≡ is.number = omega arith in
      let code : (is.number * 8 + is.code) % 8 ≡ is.code = omega arith in
      rw (tag, number, code, cut) refl

  has_tag : {Says : ℕ → ℕ → List ℕ → Type 0} (bytes : List ℕ) (x : ℕ × ℕ) → Finds IsNumber x.0 at x.1 bytes → Says (x.0 / 8) (x.0 % 8) (drop x.1 bytes) → HasTag Says bytes
  has_tag bytes x n says =
      let whole : x.0 ≡ x.0 / 8 * 8 + x.0 % 8 = omega arith in
      record {
        number = x.0 / 8;
        code = x.0 % 8;
        text = take x.1 bytes;
        behind = drop x.1 bytes;
        bytes_are = sym (take-append-drop x.1 bytes);
        text_is = subst (λ (m : ℕ). IsVarint (take x.1 bytes) m) whole n.says;
        code_is = omega arith;
        says = says;
      }

  no_kind : (code : ℕ) → code < 8 → code ≢ 0 → code ≢ 1 → code ≢ 2 → code ≢ 5 → IsNoWireType code
  no_kind zero lt n0 n1 n2 n5 = absurd (n0 refl)
  no_kind (suc zero) lt n0 n1 n2 n5 = absurd (n1 refl)
  no_kind (suc (suc zero)) lt n0 n1 n2 n5 = absurd (n2 refl)
  no_kind (suc (suc (suc zero))) lt n0 n1 n2 n5 = inl refl
  no_kind (suc (suc (suc (suc zero)))) lt n0 n1 n2 n5 = inr (inl refl)
  no_kind (suc (suc (suc (suc (suc zero))))) lt n0 n1 n2 n5 = absurd (n5 refl)
  no_kind (suc (suc (suc (suc (suc (suc zero)))))) lt n0 n1 n2 n5 = inr (inr (inl refl))
  no_kind (suc (suc (suc (suc (suc (suc (suc zero))))))) lt n0 n1 n2 n5 = inr (inr (inr refl))
  no_kind (suc (suc (suc (suc (suc (suc (suc (suc n)))))))) lt n0 n1 n2 n5 = absurd (omega (arith, lt))

  kind_err : (code : ℕ) (e : WireError) → code < 8 → kind_of at code ≡ Err e → (errors.WireType at ≡ e) × IsNoWireType code
  unfolding kind_of
  kind_err code e small h =
      let none : Result WireType WireError = Err (errors.WireType at) in
      let four_or : Result WireType WireError = cond (eqb code 5) (Ok kinds.Four) none in
      let bytes_or : Result WireType WireError = cond (eqb code 2) (Ok kinds.Bytes) four_or in
      let eight_or : Result WireType WireError = cond (eqb code 1) (Ok kinds.Eight) bytes_or in
      let h0 = step 0 kinds.Varint eight_or h in
      let h1 = step 1 kinds.Eight bytes_or h0.1 in
      let h2 = step 2 kinds.Bytes four_or h1.1 in
      let h5 = step 5 kinds.Four none h2.1 in
      (err_is {A = WireType} _ _ h5.1, no_kind code small h0.0 h1.0 h2.0 h5.0)
    where
      step : (n : ℕ) (kind : WireType) (others : Result WireType WireError) → cond (eqb code n) (Ok kind) others ≡ Err e → (code ≢ n) × (others ≡ Err e)
      step n kind others h =
          elim (eqb code n) as (λ b. eqb code n ≡ b → cond b (Ok kind) others ≡ Err e → (code ≢ n) × (others ≡ Err e)) [
            | true ↦ λ t k. absurd (err_ok e kind (sym k))
            | false ↦ λ t k. (eqb-false _ _ t, k)
          ] refl h

  kind_code : (kind : WireType) → kind_of at (wire_code kind) ≡ Ok kind
  unfolding kind_of
  kind_code kinds.Varint = refl
  kind_code kinds.Eight = refl
  kind_code kinds.Bytes = refl
  kind_code kinds.Four = refl

  number_of_field : (n : ℕ) → IsFieldNumber n → tag_number at n ≡ Ok n
  unfolding tag_number
  number_of_field n is =
      let a : ltb 0 n ≡ true = lt-ltb _ _ is.0 in
      let b : ltb n (2 ^ 29) ≡ true = lt-ltb _ _ is.1 in
      rw (a, b) refl

  number_of_none : (n : ℕ) → IsNoFieldNumber n → tag_number at n ≡ Err (FieldNumber at)
  unfolding tag_number
  number_of_none n is =
      elim is [
        | inl none ↦ rw none refl
        | inr much ↦
            let a : ltb 0 n ≡ true = lt-ltb _ _ (omega (arith, much)) in
            let b : ltb n (2 ^ 29) ≡ false = le-ltb _ _ much in
            rw (a, b) refl
      ]

  number_err : (n : ℕ) (e : WireError) → tag_number at n ≡ Err e → (FieldNumber at ≡ e) × IsNoFieldNumber n
  number_err n e h =
      elim (cases_lt 0 n) [
        | inl above ↦
            elim (cases_lt n (2 ^ 29)) [
              | inl below ↦ absurd (err_ok e n (sym (sym (number_of_field n (above, below)) ∙ h)))
              | inr much ↦ (err_is {A = ℕ} _ _ (sym (number_of_none n (inr much)) ∙ h), inr much)
            ]
        | inr least ↦ let none : n ≡ 0 = omega (arith, least) in (err_is {A = ℕ} _ _ (sym (number_of_none n (inl none)) ∙ h), inl none)
      ]

  code_of_none : (code : ℕ) → IsNoWireType code → kind_of at code ≡ Err (errors.WireType at)
  unfolding kind_of
  code_of_none code is =
      elim is [
        | inl is3 ↦ rw is3 refl
        | inr others ↦ elim others [
          | inl is4 ↦ rw is4 refl
          | inr more ↦ elim more [ inl is6 ↦ rw is6 refl | inr is7 ↦ rw is7 refl ]
        ]
      ]

  module _ (bytes : List ℕ) where
    field_from_number : (e : WireError) → IsNumberFault at bytes e → IsFieldFault fits at bytes e
    field_from_number (Truncated place) h = (h.0, inl h.1)
    field_from_number (LongVarint place) h = (h.0, inl h.1)
    field_from_number e h = absurd h

    module _ (x : ℕ × ℕ) (n : Finds IsNumber x.0 at x.1 bytes) where
      abbrev number : ℕ
      number = x.0 / 8

      abbrev code : ℕ
      code = x.0 % 8

      abbrev behind : List ℕ
      behind = drop x.1 bytes

      field_from_payload : (kind : WireType) → IsFieldNumber number → code ≡ wire_code kind → fits number kind ≡ true → (e : WireError) → IsPayloadFault kind at behind e → IsFieldFault fits at bytes e
      field_from_payload kind is code_is fit (Truncated place) h = (h.0, inr (has_tag bytes x n (is, (kind, code_is, fit, h.1))))
      field_from_payload kind is code_is fit (LongVarint place) h = (h.0, inr (has_tag bytes x n (is, (kind, code_is, fit, h.1))))
      field_from_payload kind is code_is fit e h = absurd h

      kind_fault_found : (kind : WireType) → IsFieldNumber number → code ≡ wire_code kind → (e : WireError) → after_kind x.1 number code behind number kind ≡ Err e → IsFieldFault fits at bytes e
      kind_fault_found kind is code_is e h =
          elim (fits number kind) as (λ b. fits number kind ≡ b → cond b (after_fit x.1 number code behind number kind) (Err (WrongType at)) ≡ Err e → IsFieldFault fits at bytes e) [
            | true ↦ λ fit k.
                elim (bind_err (payload_at kind at (at + x.1) behind) (after_payload x.1 number code behind number) e k) [
                  | inl p ↦ field_from_payload kind is code_is fit e (payload_fault_found at behind (at + x.1) kind e p)
                  | inr p ↦ absurd (err_ok e (field x.1 number code behind number p.0.0, x.1 + p.0.1) (sym p.2))
                ]
            | false ↦ λ fit k. subst (IsFieldFault fits at bytes) (err_is {A = FieldAt × ℕ} _ _ k) (refl, has_tag bytes x n (is, (kind, code_is, fit)))
          ] refl h

      number_fault_is : IsFieldNumber number → (e : WireError) → after_number x.1 number code behind number ≡ Err e → IsFieldFault fits at bytes e
      number_fault_is is e h =
          elim (bind_err (kind_of at code) (after_kind x.1 number code behind number) e h) [
            | inl k ↦ let none = kind_err code e (omega arith) k in subst (IsFieldFault fits at bytes) none.0 (refl, has_tag bytes x n (is, none.1))
            | inr k ↦ kind_fault_found k.0 is (kind_of_found at code k.0 k.1) e k.2
          ]

      tag_fault_is : (e : WireError) → after_tag x.1 number code behind ≡ Err e → IsFieldFault fits at bytes e
      tag_fault_is e h =
          elim (bind_err (tag_number at number) (after_number x.1 number code behind) e h) [
            | inl k ↦ let none = number_err number e k in subst (IsFieldFault fits at bytes) none.0 (refl, has_tag bytes x n none.1)
            | inr k ↦
                let is = tag_number_found at number k.0 k.1 in
                number_fault_is (is.1, is.2) e (subst (λ (m : ℕ). after_number x.1 number code behind m ≡ Err e) (sym is.0) k.2)
          ]

    pub field_fault_found : (e : WireError) → field_at fits at bytes ≡ Err e → IsFieldFault fits at bytes e
    unfolding field_at
    field_fault_found e h =
        elim (bind_err (varint_at at bytes) (λ tag. after_tag tag.1 (tag.0 / 8) (tag.0 % 8) (drop tag.1 bytes)) e h) [
          | inl v ↦ field_from_number e (number_fault_found at bytes e v)
          | inr v ↦ tag_fault_is v.0 (number_found at at bytes v.0 v.1) e v.2
        ]

    abbrev failed : WireError → Result (FieldAt × ℕ) WireError
    failed e = Err e

    -- a tag whose number may have its wire type
    fit_read : (Says : WireType → List ℕ → Type 0) (is : HasPayload fits Says bytes) → field_at fits at bytes ≡ after_fit (length is.text) is.number is.code is.behind is.number is.says.1.0
    fit_read Says is =
        let number = number_of_field is.number is.says.0 in
        let code : kind_of at is.code ≡ Ok is.says.1.0 = ap (kind_of at) is.says.1.1 ∙ kind_code is.says.1.0 in
        let fit = is.says.1.2 in
        tag_read bytes is ∙ rw (number, code, fit) refl

    cut_tag : EndsInNumber bytes → field_at fits at bytes ≡ Err (Truncated at)
    unfolding field_at
    cut_tag ends = rw (ends_fails at bytes ends) refl

    long_tag : HasLongNumber bytes → field_at fits at bytes ≡ Err (LongVarint at)
    unfolding field_at
    long_tag long = rw (long_number_fails at bytes long) refl

    pub field_fails : (e : WireError) → IsFieldFault fits at bytes e → field_at fits at bytes ≡ Err e
    field_fails (Truncated place) h =
        let moved : failed (Truncated at) ≡ failed (Truncated place) = ap (λ (p : ℕ). failed (Truncated p)) (sym h.0) in
        elim h.1 [
          | inl ends ↦ cut_tag ends ∙ moved
          | inr is ↦ fit_read EndsInPayload is ∙ rw (payload_ends at is.behind (at + length is.text) is.says.1.0 is.says.1.3) moved
        ]
    field_fails (LongVarint place) h =
        let moved : failed (LongVarint at) ≡ failed (LongVarint place) = ap (λ (p : ℕ). failed (LongVarint p)) (sym h.0) in
        elim h.1 [
          | inl long ↦ long_tag long ∙ moved
          | inr is ↦ fit_read HasLongPayload is ∙ rw (payload_long at is.behind (at + length is.text) is.says.1.0 is.says.1.3) moved
        ]
    field_fails (FieldNumber place) h =
        let moved : failed (FieldNumber at) ≡ failed (FieldNumber place) = ap (λ (p : ℕ). failed (FieldNumber p)) (sym h.0) in
        let none = number_of_none h.1.number h.1.says in
        tag_read bytes h.1 ∙ rw none moved
    field_fails (errors.WireType place) h =
        let moved : failed (errors.WireType at) ≡ failed (errors.WireType place) = ap (λ (p : ℕ). failed (errors.WireType p)) (sym h.0) in
        let number = number_of_field h.1.number h.1.says.0 in
        let none = code_of_none h.1.code h.1.says.1 in
        tag_read bytes h.1 ∙ rw (number, none) moved
    field_fails (WrongType place) h =
        let moved : failed (WrongType at) ≡ failed (WrongType place) = ap (λ (p : ℕ). failed (WrongType p)) (sym h.0) in
        let is = h.1 in
        let number = number_of_field is.number is.says.0 in
        let code : kind_of at is.code ≡ Ok is.says.1.0 = ap (kind_of at) is.says.1.1 ∙ kind_code is.says.1.0 in
        let fit = is.says.1.2 in
        tag_read bytes is ∙ rw (number, code, fit) moved
    field_fails e h = absurd h
