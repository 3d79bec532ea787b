-- A spelled field is read, whatever follows it.
use Rattle.std.proofs.Common.{◌≡◌, ℕ, ◌+◌, ◌*◌, ◌/◌, ◌%◌, ◌^◌, ◌<◌, Bool, ltb, true, false, List, ◌++◌, length, take, drop, Ok, refl, sym}
use Rattle.std.proofs.Common.{ap, ◌∙◌, append_assoc, length-append, arith}
use Rattle.std.proofs.lemmas.Bool.{lt-ltb, le-ltb}
use Rattle.std.proofs.lemmas.List.{take_at, drop_at}
use Rattle.am_wire.specs.declared.value.WireType.{WireType}
use Rattle.am_wire.specs.declared.value.WireType.TheVariants as kinds
use Rattle.am_wire.specs.Fields.{FieldAt, Payload, varint, eight, four, delimited_at, field_at, payload_at, number_at}
use Rattle.am_wire.specs.Fields.{payload_behind_length, tag_number, kind_of}
use Rattle.am_wire.specs.Grammar.{IsPayload, IsField, wire_type_of, wire_code, field_fits}
use Rattle.am_wire.specs.RoundTrip.Varints.{varint_read, varint_filled}
use Rattle.am_wire.specs.RoundTrip.Pieces.{Reads}

tag_number_is : (at n k : ℕ) → 0 < n → n < 2 ^ 29 → k < 8 → tag_number at ((n * 8 + k) / 8) ≡ Ok n
unfolding tag_number
tag_number_is at n k pos lt h =
    let e : (n * 8 + k) / 8 ≡ n = omega arith in
    let a : ltb 0 n ≡ true = lt-ltb _ _ pos in
    let b : ltb n (2 ^ 29) ≡ true = lt-ltb _ _ lt in
    rw (e, a, b) refl

wire_code_small : (kind : WireType) → wire_code kind < 8
wire_code_small kinds.Varint = omega arith
wire_code_small kinds.Eight = omega arith
wire_code_small kinds.Bytes = omega arith
wire_code_small kinds.Four = omega arith

kind_of-wire_code : (at : ℕ) (kind : WireType) → kind_of at (wire_code kind) ≡ Ok kind
unfolding kind_of
kind_of-wire_code at kinds.Varint = refl
kind_of-wire_code at kinds.Eight = refl
kind_of-wire_code at kinds.Bytes = refl
kind_of-wire_code at kinds.Four = refl

kind_of_is : (at n : ℕ) (kind : WireType) → kind_of at ((n * 8 + wire_code kind) % 8) ≡ Ok kind
kind_of_is at n kind =
    let small = wire_code_small kind in
    let e : (n * 8 + wire_code kind) % 8 ≡ wire_code kind = omega arith in
    ap (kind_of at) e ∙ kind_of-wire_code at kind

-- a payload that is spelled is read
pub payload_read : (p : Payload) (at start : ℕ) (text rest : List ℕ) → IsPayload p start text
    → payload_at (wire_type_of p) at start (text ++ rest) ≡ Ok (p, length text)
unfolding payload_at number_at payload_behind_length
payload_read (varint n) at start text rest is = rw (varint_read at n text rest is) refl
payload_read (eight n) at start text rest is =
    let room : ltb (length (text ++ rest)) 8 ≡ false = le-ltb _ _ (omega (arith, length-append text rest, is.0)) in
    let front : take 8 (text ++ rest) ≡ text = take_at text rest 8 is.0 in
    rw (room, front, is.0, is.1) refl
payload_read (four n) at start text rest is =
    let room : ltb (length (text ++ rest)) 4 ≡ false = le-ltb _ _ (omega (arith, length-append text rest, is.0)) in
    let front : take 4 (text ++ rest) ≡ text = take_at text rest 4 is.0 in
    rw (room, front, is.0, is.1) refl
payload_read (delimited_at inside bytes) at start text rest is =
    let regroup : text ++ rest ≡ is.size ++ (bytes ++ rest) = ap (λ (x : List ℕ). x ++ rest) is.text_is ∙ append_assoc is.size bytes rest in
    let sized = varint_read at (length bytes) is.size (bytes ++ rest) is.size_is in
    let cut : drop (length is.size) (is.size ++ (bytes ++ rest)) ≡ bytes ++ rest = drop_at is.size (bytes ++ rest) (length is.size) refl in
    let room : ltb (length (bytes ++ rest)) (length bytes) ≡ false = le-ltb _ _ (omega (arith, length-append bytes rest)) in
    let front : take (length bytes) (bytes ++ rest) ≡ bytes = take_at bytes rest (length bytes) refl in
    let len : length is.size + length bytes ≡ length text = sym (ap length is.text_is ∙ length-append is.size bytes) in
    ap (payload_behind_length at start) regroup ∙ rw (sized, cut, room, front, len, is.inside_is) refl

pub field_read : (fits : ℕ → WireType → Bool) (e : FieldAt) (at : ℕ) (text : List ℕ) → IsField e at text → field_fits fits e ≡ true
    → Reads (field_at fits) e at text
unfolding field_at
field_read fits e at text is fit = record {
  filled =
      let len = ap length is.text_is ∙ length-append is.tag is.payload in
      let tag = varint_filled _ _ is.tag_is in
      omega (arith, len, tag);
  reads = λ rest.
      let kind : WireType = wire_type_of e.payload in
      let small = wire_code_small kind in
      let regroup : text ++ rest ≡ is.tag ++ (is.payload ++ rest) = ap (λ (x : List ℕ). x ++ rest) is.text_is
      ∙ append_assoc is.tag is.payload rest in
      let tag = varint_read at (e.number * 8 + wire_code kind) is.tag (is.payload ++ rest) is.tag_is in
      let cut : drop (length is.tag) (is.tag ++ (is.payload ++ rest)) ≡ is.payload ++ rest =
      drop_at is.tag (is.payload ++ rest) (length is.tag) refl in
      let number = tag_number_is at e.number (wire_code kind) is.above_none is.below_all small in
      let payload = payload_read e.payload at (at + length is.tag) is.payload rest is.payload_is in
      let len : length is.tag + length is.payload ≡ length text = sym (ap length is.text_is ∙ length-append is.tag is.payload) in
      ap (field_at fits at) regroup ∙ rw (tag, number, kind_of_is at e.number kind, fit, cut, payload, len, sym is.at_is) refl;
}
