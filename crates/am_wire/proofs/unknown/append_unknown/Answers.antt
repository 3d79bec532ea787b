use Rattle.std.proofs.Common.{◌≡◌, ℕ, ◌+◌, ◌<◌, ◌≤◌, Bool, true, false, cond, List, [], ◌++◌, length, take, drop, Ok, refl, sym, ap, ◌∙◌, append_assoc, arith}
use Rattle.std.proofs.lemmas.List.{append-nil}
use Rattle.am_wire.specs.Fields.{FieldAt, field_of, field_at, any}
use Rattle.am_wire.specs.Unknown.{knows, unknown_in}
use Rattle.am_wire.proofs.Kept.{unknown_from, kept, kept_first, kept_none}
use Rattle.am_wire.proofs.unknown.append_unknown.Goals as goal

pub loop-field-init : goal.loop-field-init
unfolding unknown_in
loop-field-init c = (0, omega arith, refl)

pub field_from-requires : goal.field_from-requires
field_from-requires c = let within = c.loop-field.invariant.1 in omega (arith, within)

-- what is kept of the field at the front, and of the rest
module _ (known out rest whole text behind : List ℕ) (place len : ℕ) (e : FieldAt) (before : out ++ unknown_from known place rest ≡ whole)
    (is : Ok (e, len) ≡ field_at any 0 rest) (within : (0 < len) × (len ≤ length rest)) (front : text ≡ take len rest) (back : behind ≡ drop len rest) where
  one_more : (out ++ kept known e text) ++ unknown_from known (place + len) behind ≡ whole
  one_more =
      append_assoc out (kept known e text) (unknown_from known (place + len) behind)
      ∙ ap (λ (t : List ℕ). out ++ t) (rw (front, back) (sym (kept_first known place rest e len (sym is) within.0 within.1))) ∙ before

  with_field : (new : List ℕ) → knows known e.number ≡ false → new ≡ out ++ text → new ++ unknown_from known (place + len) behind ≡ whole
  with_field new other added = ap (λ (t : List ℕ). t ++ unknown_from known (place + len) behind) (added ∙ ap (λ (b : Bool). out ++ cond b [] text) (sym other)) ∙ one_more

  without : knows known e.number ≡ true → out ++ unknown_from known (place + len) behind ≡ whole
  without one = ap (λ (t : List ℕ). t ++ unknown_from known (place + len) behind) (sym (append-nil out) ∙ ap (λ (b : Bool). out ++ cond b [] text) (sym one)) ∙ one_more

pub loop-field-preserved-in_ok-extend_from_slice : goal.loop-field-preserved-in_ok-extend_from_slice
loop-field-preserved-in_ok-extend_from_slice c =
    let (place, within, before) = c.loop-field.invariant in
    let other = sym c.contains.ensures.value ∙ c.if-not-contains.true in (
      place + c.in-Ok.len,
      omega (arith, within, c.split_at.ensures.back_len),
      with_field _ _ _ _ c.split_at.result.0.now c.split_at.result.1.now place c.in-Ok.len (field_of c.in-Ok.field) before c.in-Ok.ensures.value c.in-Ok.ensures.within
          c.split_at.ensures.front c.split_at.ensures.back _ other c.in_ok-extend_from_slice.ensures.items,
    )

pub loop-field-preserved : goal.loop-field-preserved
loop-field-preserved c =
    let (place, within, before) = c.loop-field.invariant in (
      place + c.in-Ok.len,
      omega (arith, within, c.split_at.ensures.back_len),
      without _ _ _ _ c.split_at.result.0.now c.split_at.result.1.now place c.in-Ok.len (field_of c.in-Ok.field) before c.in-Ok.ensures.value c.in-Ok.ensures.within
          c.split_at.ensures.front c.split_at.ensures.back (sym c.contains.ensures.value ∙ c.if-not-contains.false),
    )

pub returns : goal.returns
returns c =
    let (place, within, before) = c.loop-field.invariant in
    let ended = kept_none c.args.known.now place c.loop-field.rest.now c.in_default.field-0 (sym c.in_default.ensures.value) in
    sym (append-nil c.loop-field.out.items) ∙ ap (λ (t : List ℕ). c.loop-field.out.items ++ t) (sym ended) ∙ before
