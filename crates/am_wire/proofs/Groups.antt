-- A loop that has read the first groups of a number.
use Rattle.std.proofs.Common.{◌≡◌, ℕ, suc, ◌+◌, ◌-◌, ◌*◌, ◌%◌, ◌^◌, ◌<◌, ◌≤◌, ◌≢◌, ltb, true, false, List, [], ◌∷◌, length, drop, get_or, Some, Result, Ok, Err, refl, sym, ap, ◌∙◌, arith, drop-cons, add-one}
use Rattle.std.specs.Prelude.{slice_get}
use Rattle.std.proofs.lemmas.Bool.{lt-ltb, le-ltb}
use Rattle.std.proofs.Math.Nat.{pow-suc, mul-le-mul_right}
use Rattle.std.proofs.Math.ListN.{drop_of_length-le}
use Rattle.am_wire.specs.declared.error.WireError.{WireError}
use Rattle.am_wire.specs.declared.error.WireError.TheVariants.{Truncated, LongVarint}
use Rattle.am_wire.specs.Varint.{groups, one_more, varint_within}

-- what is read behind `place` bytes, with what those bytes stand for
abbrev pub after : ℕ → ℕ → ℕ → Result (ℕ × ℕ) WireError → Result (ℕ × ℕ) WireError
after value scale place (Ok x) = Ok (value + scale * x.0, place + x.1)
after value scale place (Err e) = Err e

pub record HasRead (value scale place at : ℕ) (bytes : List ℕ) : Type 0 where
  pub place_in : place ≤ 9
  pub scale_is : scale ≡ 128 ^ place
  pub value_in : value < scale
  pub goes_on : after value scale place (varint_within at (9 - place) (drop place bytes)) ≡ varint_within at 9 bytes

abbrev done : ℕ → ℕ → Result (ℕ × ℕ) WireError
done n len = Ok (n, len)

-- a number of one byte
pub one_group : (n : ℕ) → n < 128 → groups 9 n ≡ n ∷ []
unfolding groups
one_group n low = let t : ltb n 128 ≡ true = lt-ltb _ _ low in rw t refl

pub one_byte : (at b : ℕ) (bytes : List ℕ) → slice_get bytes 0 ≡ Some b → b < 128 → varint_within at 9 bytes ≡ Ok (b, 1)
unfolding varint_within
one_byte at b [] is lt = absurd cc
one_byte at b (x ∷ bytes) is lt =
    let same : x ≡ b = cc in
    let t : ltb x 128 ≡ true = lt-ltb _ _ (omega arith) in
    rw t (ap (λ (n : ℕ). done n 1) same)

pub after-start : (r : Result (ℕ × ℕ) WireError) → after 0 1 0 r ≡ r
after-start (Ok x) =
    let a : 0 + 1 * x.0 ≡ x.0 = omega arith in
    let b : 0 + x.1 ≡ x.1 = omega arith in
    ap (λ (n : ℕ). done n (0 + x.1)) a ∙ ap (λ (n : ℕ). done x.0 n) b
after-start (Err e) = refl

after-one_more : (v s p b : ℕ) (r : Result (ℕ × ℕ) WireError) → after v s p (one_more b r) ≡ after (v + b % 128 * s) (s * 128) (p + 1) r
after-one_more v s p b (Ok x) =
    let a : v + s * (b % 128 + 128 * x.0) ≡ v + b % 128 * s + s * 128 * x.0 = omega arith in
    let c : p + (x.1 + 1) ≡ p + 1 + x.1 = omega arith in
    ap (λ (n : ℕ). done n (p + (x.1 + 1))) a ∙ ap (λ (n : ℕ). done (v + b % 128 * s + s * 128 * x.0) n) c
after-one_more v s p b (Err e) = refl

-- ---- the byte at the place
module _ (value scale place at : ℕ) (bytes : List ℕ) (h : HasRead value scale place at bytes) where
  -- the loop ends in the bytes
  module _ (b : ℕ) (lt : place < length bytes) (is : b ≡ get_or bytes place 0) where
    front : drop place bytes ≡ b ∷ drop (suc place) bytes
    front = drop-cons bytes place 0 lt ∙ ap (λ (x : ℕ). x ∷ drop (suc place) bytes) (sym is)

    step : varint_within at 9 bytes ≡ after value scale place (varint_within at (9 - place) (b ∷ drop (suc place) bytes))
    step = sym h.goes_on ∙ ap (λ (x : List ℕ). after value scale place (varint_within at (9 - place) x)) front

    pub ends_at_tenth : place + 1 ≡ 10 → b < 2 → Ok (value + b * scale, 10) ≡ varint_within at 9 bytes
    unfolding varint_within
    ends_at_tenth e lt2 =
        let k : 9 - place ≡ 0 = omega arith in
        let t : ltb b 2 ≡ true = lt-ltb _ _ lt2 in
        let a : value + scale * b ≡ value + b * scale = omega arith in
        let p : place + 1 ≡ 10 = e in
        let one : varint_within at 9 bytes ≡ done (value + scale * b) (place + 1) = step ∙ rw (k, t) refl in
        sym (one ∙ ap (λ (n : ℕ). done n (place + 1)) a ∙ ap (λ (n : ℕ). done (value + b * scale) n) p)

    pub fails_at_tenth : place + 1 ≡ 10 → 2 ≤ b → Err (LongVarint at) ≡ varint_within at 9 bytes
    unfolding varint_within
    fails_at_tenth e le2 =
        let k : 9 - place ≡ 0 = omega arith in
        let t : ltb b 2 ≡ false = le-ltb _ _ le2 in
        sym (step ∙ rw (k, t) refl)

    pub ends_here : place + 1 ≢ 10 → b < 128 → Ok (value + b * scale, place + 1) ≡ varint_within at 9 bytes
    unfolding varint_within
    ends_here ne lt128 =
        let in9 = h.place_in in
        let k : 9 - place ≡ suc (8 - place) = omega arith in
        let t : ltb b 128 ≡ true = lt-ltb _ _ lt128 in
        let a : value + scale * b ≡ value + b * scale = omega arith in
        let one : varint_within at 9 bytes ≡ done (value + scale * b) (place + 1) = step ∙ rw (k, t) refl in
        sym (one ∙ ap (λ (n : ℕ). done n (place + 1)) a)

    pub reads_on : place + 1 ≢ 10 → 128 ≤ b → HasRead (value + b % 128 * scale) (scale * 128) (place + 1) at bytes
    unfolding varint_within
    reads_on ne le128 =
        let in9 = h.place_in in
        let k : 9 - place ≡ suc (9 - (place + 1)) = omega arith in
        let t : ltb b 128 ≡ false = le-ltb _ _ le128 in
        let one : varint_within at 9 bytes ≡ after value scale place (one_more b (varint_within at (9 - (place + 1)) (drop (suc place) bytes))) = step ∙ rw (k, t) refl in
        let two = after-one_more value scale place b (varint_within at (9 - (place + 1)) (drop (suc place) bytes)) in
        let low : b % 128 * scale ≤ 127 * scale = mul-le-mul_right scale (omega arith) in
        let more : drop (place + 1) bytes ≡ drop (suc place) bytes = ap (λ (n : ℕ). drop n bytes) (add-one place) in
        record {
          place_in = omega arith;
          scale_is = ap (λ (n : ℕ). n * 128) h.scale_is ∙ sym (pow-suc 128 place) ∙ ap (λ (n : ℕ). 128 ^ n) (sym (add-one place));
          value_in = omega (arith, h.value_in);
          goes_on = rw more (sym (one ∙ two));
        }

  pub ends_short : length bytes ≤ place → Err (Truncated at) ≡ varint_within at 9 bytes
  unfolding varint_within
  ends_short le =
      let none : drop place bytes ≡ [] = drop_of_length-le bytes le in
      let one : varint_within at 9 bytes ≡ Err (Truncated at) = sym h.goes_on ∙ ap (λ (x : List ℕ). after value scale place (varint_within at (9 - place) x)) none in
      sym one
