-- A loop that has written the first groups of a number.
use Rattle.std.proofs.Common.{◌≡◌, ℕ, zero, suc, ◌+◌, ◌-◌, ◌/◌, ◌%◌, ◌^◌, ◌<◌, ◌≤◌, ltb, true, false, List, [], ◌∷◌, ◌++◌, length, take, set, length-set, append_assoc, add-one, refl, sym, ap, ◌∙◌, arith}
use Rattle.std.proofs.lemmas.Bool.{lt-ltb, le-ltb}
use Rattle.std.proofs.Math.Seq.{take-suc-set}
use Rattle.am_wire.specs.Varint.{groups}

pub record HasWritten (value : ℕ) (bytes : List ℕ) (len rest : ℕ) : Type 0 where
  pub size : length bytes ≡ 10
  pub len_in : len ≤ 9
  pub rest_in : rest < 2 ^ 64
  pub goes_on : take len bytes ++ groups (9 - len) rest ≡ groups 9 value

-- a number below 128 is one group
low : (room n : ℕ) → n < 128 → groups room n ≡ (n % 128) ∷ []
unfolding groups
low zero n lt = refl
low (suc room) n lt =
    let t : ltb n 128 ≡ true = lt-ltb _ _ lt in
    let e : n ≡ n % 128 = omega arith in
    rw t (ap (λ (x : ℕ). x ∷ []) e)

module _ (value : ℕ) (bytes : List ℕ) (len rest : ℕ) (h : HasWritten value bytes len rest) where
  pub goes_on_writing : 128 ≤ rest → len < 9 → HasWritten value (set bytes len (128 + rest % 128)) (len + 1) (rest / 128)
  unfolding groups
  goes_on_writing le lt =
      let size = h.size in
      let below = h.rest_in in
      let t : ltb rest 128 ≡ false = le-ltb _ _ le in
      let k : 9 - len ≡ suc (9 - (len + 1)) = omega arith in
      let in_bytes : len < length bytes = omega arith in
      let front : take (len + 1) (set bytes len (128 + rest % 128)) ≡ take len bytes ++ (128 + rest % 128) ∷ [] = ap (λ (n : ℕ). take n (set bytes len (128 + rest % 128))) (add-one len) ∙ take-suc-set bytes len (128 + rest % 128) in_bytes in
      let others : groups (9 - len) rest ≡ (128 + rest % 128) ∷ groups (9 - (len + 1)) (rest / 128) = rw (k, t) refl in
      record {
        size = length-set bytes len (128 + rest % 128) ∙ size;
        len_in = omega arith;
        rest_in = omega arith;
        goes_on = ap (λ (x : List ℕ). x ++ groups (9 - (len + 1)) (rest / 128)) front ∙ append_assoc (take len bytes) ((128 + rest % 128) ∷ []) (groups (9 - (len + 1)) (rest / 128)) ∙ ap (λ (x : List ℕ). take len bytes ++ x) (sym others) ∙ h.goes_on;
      }

  ends : (last : ℕ) → last ≡ rest % 128 → groups (9 - len) rest ≡ last ∷ [] → take (len + 1) (set bytes len last) ≡ groups 9 value
  ends last is others =
      let size = h.size in
      let len_in = h.len_in in
      let in_bytes : len < length bytes = omega arith in
      ap (λ (n : ℕ). take n (set bytes len last)) (add-one len) ∙ take-suc-set bytes len last in_bytes ∙ ap (λ (x : List ℕ). take len bytes ++ x) (sym others) ∙ h.goes_on

  pub ends_low : rest < 128 → take (len + 1) (set bytes len (rest % 128)) ≡ groups 9 value
  ends_low lt = ends (rest % 128) refl (low (9 - len) rest lt)

  pub ends_full : 9 ≤ len → take (len + 1) (set bytes len (rest % 128)) ≡ groups 9 value
  unfolding groups
  ends_full le =
      let len_in = h.len_in in
      let k : 9 - len ≡ 0 = omega arith in
      ends (rest % 128) refl (rw k refl)

-- ---- a loop that puts the groups behind other bytes
pub record HasPushed (value : ℕ) (old new : List ℕ) (len rest : ℕ) : Type 0 where
  pub len_in : len ≤ 9
  pub rest_in : rest < 2 ^ 64
  pub goes_on : new ++ groups (9 - len) rest ≡ old ++ groups 9 value

module _ (value : ℕ) (old new : List ℕ) (len rest : ℕ) (h : HasPushed value old new len rest) where
  pub goes_on_pushing : 128 ≤ rest → len < 9 → HasPushed value old (new ++ (128 + rest % 128) ∷ []) (len + 1) (rest / 128)
  unfolding groups
  goes_on_pushing le lt =
      let below = h.rest_in in
      let t : ltb rest 128 ≡ false = le-ltb _ _ le in
      let k : 9 - len ≡ suc (9 - (len + 1)) = omega arith in
      let others : groups (9 - len) rest ≡ (128 + rest % 128) ∷ groups (9 - (len + 1)) (rest / 128) = rw (k, t) refl in
      record {
        len_in = omega arith;
        rest_in = omega arith;
        goes_on = append_assoc new ((128 + rest % 128) ∷ []) (groups (9 - (len + 1)) (rest / 128)) ∙ ap (λ (x : List ℕ). new ++ x) (sym others) ∙ h.goes_on;
      }

  pub pushed_low : rest < 128 → new ++ rest % 128 ∷ [] ≡ old ++ groups 9 value
  pushed_low lt = ap (λ (x : List ℕ). new ++ x) (sym (low (9 - len) rest lt)) ∙ h.goes_on

  pub pushed_full : 9 ≤ len → new ++ rest % 128 ∷ [] ≡ old ++ groups 9 value
  unfolding groups
  pushed_full le =
      let len_in = h.len_in in
      let k : 9 - len ≡ 0 = omega arith in
      ap (λ (x : List ℕ). new ++ x) (rw k refl) ∙ h.goes_on
