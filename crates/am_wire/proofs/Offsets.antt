-- A part that stands behind its length.
use Rattle.std.proofs.Common.{◌≡◌, ℕ, ◌+◌, ◌-◌, ◌*◌, ◌<◌, ◌≤◌, ◌^◌, true, false, cond, eqb, ltb, List, [], ◌++◌, length, length-append, append_assoc, append-nil, take, drop, Result, Ok, Err, IfOk, inl, inr, refl, sym, ap, subst, ◌∙◌, arith}
use Rattle.std.proofs.Math.Seq.{drop-append_seam, take-append_seam, drop-append-add}
use Rattle.std.proofs.lemmas.Bool.{eqb-true, lt-ltb}
use Rattle.std.proofs.lemmas.List.{nil_from_length, take_rest, drop-append-le}
use Rattle.am_wire.specs.declared.error.WireError.{WireError}
use Rattle.am_wire.specs.declared.offset.Offset.{Offset}
use Rattle.am_wire.specs.Offsets.{Follows, StandsAt}
use Rattle.am_wire.specs.RoundTrip.Varints.{varint_read, shortest_spells}
use Rattle.am_wire.specs.Varint.{varint_at, shortest, groups}
use Rattle.am_wire.specs.Writing.{tag, writes_delimited, writes_text}

module _ {part bytes : List ℕ} (h : Follows 0 part bytes) where
  length_read : varint_at 0 bytes ≡ Ok (length part, length (shortest (length part)))
  length_read = ap (varint_at 0) h.is ∙ varint_read 0 (length part) (shortest (length part)) (part ++ h.rest) (shortest_spells (length part) h.short)

  pub never_cut : (e : WireError) → Err e ≡ varint_at 0 bytes → ⊥
  never_cut e is = subst (λ (r : Result (ℕ × ℕ) WireError). IfOk r (λ x. ⊥)) (is ∙ length_read) tt

  module _ (size len : ℕ) (read : Ok (size, len) ≡ varint_at 0 bytes) where
    pub size_read : size ≡ length part
    size_read = subst (λ (r : Result (ℕ × ℕ) WireError). IfOk r (λ x. size ≡ x.0)) (read ∙ length_read) refl

    len_read : len ≡ length (shortest (length part))
    len_read = subst (λ (r : Result (ℕ × ℕ) WireError). IfOk r (λ x. len ≡ x.1)) (read ∙ length_read) refl

    whole : length bytes ≡ length (shortest (length part)) + (length part + length h.rest)
    whole = ap length h.is ∙ length-append (shortest (length part)) (part ++ h.rest) ∙ ap (λ (n : ℕ). length (shortest (length part)) + n) (length-append part h.rest)

    pub len_within : len ≤ length bytes
    len_within = omega (arith, len_read, whole)

    rest : take (length bytes - len) (drop len bytes) ≡ part ++ h.rest
    rest = take_rest bytes len ∙ rw (len_read, h.is) (drop-append_seam (shortest (length part)) (part ++ h.rest))

    pub part_read : take size (take (length bytes - len) (drop len bytes)) ≡ part
    part_read = rw (rest, size_read) (take-append_seam part h.rest)

    pub part_fits : size ≤ length (take (length bytes - len) (drop len bytes))
    part_fits = omega (arith, size_read, ap length rest ∙ length-append part h.rest)

    pub behind_read : drop size (take (length bytes - len) (drop len bytes)) ≡ h.rest
    behind_read = rw (rest, size_read) (drop-append_seam part h.rest)

-- ---- the same of a text that the text is a part of
pub follows_past : {at : ℕ} {part text : List ℕ} (before : List ℕ) → Follows at part text → Follows (length before + at) part (before ++ text)
follows_past {at} {part} {text} before h = record {
  rest = h.rest;
  within = omega (arith, h.within, length-append before text);
  short = h.short;
  is = drop-append-add before text at ∙ h.is;
}

-- ---- the offset of a part
pub empty_at_0 : {part : List ℕ} {offset : Offset} {text : List ℕ} → offset.start ≡ 0 → StandsAt part offset text → [] ≡ part
empty_at_0 none h = elim h [ inl e ↦ sym e.1 | inr f ↦ let no : ⊥ = omega (arith, none, f.0) in absurd no ]

pub follows_at : {part : List ℕ} {offset : Offset} {text : List ℕ} → 0 < offset.start → StandsAt part offset text → Follows offset.start part text
follows_at some h = elim h [ inl e ↦ let no : ⊥ = omega (arith, some, e.0) in absurd no | inr f ↦ f.1 ]

-- the same of the rest of the text from there on
pub follows_behind : {part : List ℕ} {offset : Offset} {text : List ℕ} → 0 < offset.start → StandsAt part offset text → Follows 0 part (take (length text - offset.start) (drop offset.start text))
follows_behind {offset = offset} {text = text} some h =
    let f = follows_at some h in
    record { rest = f.rest; within = omega arith; short = f.short; is = take_rest text offset.start ∙ f.is }

-- ---- what is written behind a text
-- a part that stands at an offset still stands there
follows_before : {start : ℕ} {part text : List ℕ} → Follows start part text → (more : List ℕ) → Follows start part (text ++ more)
follows_before {start} {part} {text} h more = record {
  rest = h.rest ++ more;
  within = omega (arith, h.within, length-append text more);
  short = h.short;
  is = drop-append-le start text more h.within ∙ ap (λ (x : List ℕ). x ++ more) h.is
      ∙ append_assoc (shortest (length part)) (part ++ h.rest) more
      ∙ ap (λ (x : List ℕ). shortest (length part) ++ x) (append_assoc part h.rest more);
}

pub stands_before : {part : List ℕ} {offset : Offset} {text : List ℕ} → StandsAt part offset text → (more : List ℕ) → StandsAt part offset (text ++ more)
stands_before h more = elim h [ inl e ↦ inl e | inr f ↦ inr (f.0, follows_before f.1 more) ]

-- the same where the longer text is written in another way
pub stands_grown : {part : List ℕ} {offset : Offset} {text grown : List ℕ} → StandsAt part offset text → (more : List ℕ) → grown ≡ text ++ more → StandsAt part offset grown
stands_grown {part} {offset} h more is = subst (λ (x : List ℕ). StandsAt part offset x) (sym is) (stands_before h more)

-- a tag of one byte
short_tag : (n : ℕ) → n < 16 → length (tag n 2) ≡ 1
unfolding groups
short_tag n low =
    let one : ltb (n * 8 + 2) 128 ≡ true = lt-ltb _ _ (omega (arith, low)) in
    rw one refl

-- bytes that are written as a field are short where the text is
pub part_short : (before part text : List ℕ) (n : ℕ) → length text < 2 ^ 64 → text ≡ before ++ writes_text n part → length part < 2 ^ 64
part_short before part text n small is =
    elim (eqb (length part) 0) as (λ b. eqb (length part) 0 ≡ b → text ≡ before ++ cond b [] (writes_delimited n part) → length part < 2 ^ 64) [
      | true ↦ λ e text_is. omega (arith, eqb-true (length part) 0 e)
      | false ↦ λ e text_is. omega (
        arith,
        small,
        ap length text_is,
        length-append before (writes_delimited n part),
        length-append (tag n 2) (shortest (length part) ++ part),
        length-append (shortest (length part)) part,
      )
    ] refl is

-- and they stand behind its tag
pub stands_written : (before part text : List ℕ) (n : ℕ) (offset : Offset) → n < 16 → length part < 2 ^ 64 → text ≡ before ++ writes_text n part
    → offset.start ≡ cond (eqb (length part) 0) 0 (length before + 1) → StandsAt part offset text
stands_written before part text n offset low small is start =
    elim (eqb (length part) 0) as (λ b. eqb (length part) 0 ≡ b → text ≡ before ++ cond b [] (writes_delimited n part)
    → offset.start ≡ cond b 0 (length before + 1) → StandsAt part offset text) [
      | true ↦ λ e text_is at. inl (at, nil_from_length part (eqb-true (length part) 0 e))
      | false ↦ λ e text_is at.
          let front = before ++ tag n 2 in
          let behind = shortest (length part) ++ part in
          let whole : text ≡ front ++ behind = text_is ∙ sym (append_assoc before (tag n 2) behind) in
          let one : length front ≡ length before + 1 = length-append before (tag n 2) ∙ ap (λ (k : ℕ). length before + k) (short_tag n low) in
          let long : length text ≡ length front + (length (shortest (length part)) + length part) =
          ap length whole ∙ length-append front behind ∙ ap (λ (k : ℕ). length front + k) (length-append (shortest (length part)) part) in
          inr (
            omega (arith, at),
            record {
              rest = [];
              within = omega (arith, at, one, long);
              short = small;
              is = rw (at, ← one, whole) (drop-append_seam front behind) ∙ ap (λ (l : List ℕ). shortest (length part) ++ l) (sym (append-nil part));
            },
          )
    ] refl is start
