-- The rows for which files of blocks stand.
use Rattle.std.proofs.Common.{◌≡◌, ◌≢◌, ◌⊎◌, inl, inr, ℕ, zero, suc, ◌+◌, ◌^◌, ◌<◌, ◌≤◌, ◌&&◌, nat_le, eqb, true, List, [], ◌∷◌, ◌++◌, length, take, drop, Option, Some, None, refl, sym, ◌∙◌, ap, subst, arith, append_assoc, length-append, length-take, length-drop, take-append-drop, ne_eqb}
use Rattle.std.proofs.lemmas.Bool.{cases_Bool, and_parts, eqb-true, leb-true, le-leb}
use Rattle.std.proofs.lemmas.List.{take_at, drop_at, drop-drop}
use Rattle.std.proofs.Math.Seq.{take-append-add, drop-append-add}
use Rattle.std.proofs.lemmas.Nat.{from_le_bytes-to_le_bytes_8}
use Rattle.std.specs.Int.{w64, to_le_bytes, from_le_bytes}
use Rattle.am_store.specs.Blocks.{batch_size, first_block, batch_and, recovered_within, recovered, blocks_length}

-- a whole open block stands at the front of the file
pub record Opens (file batch rest : List ℕ) : Type 0 where
  pub header : List ℕ
  pub split : file ≡ 1 ∷ header ++ batch ++ rest
  pub eight : length header ≡ 8
  pub size : from_le_bytes w64 header ≡ length batch

abbrev pub block : List ℕ → List ℕ → Option (List ℕ × List ℕ)
block batch rest = Some (batch, rest)

batch_size_is : (header rest : List ℕ) → length header ≡ 8 → batch_size (header ++ rest) ≡ from_le_bytes w64 header
unfolding batch_size
batch_size_is header rest eight = ap (from_le_bytes w64) (take_at header rest 8 eight)

size_is : (after : List ℕ) → from_le_bytes w64 (take 8 after) ≡ batch_size after
unfolding batch_size
size_is after = refl

pub first_is : (header batch rest : List ℕ) → length header ≡ 8 → from_le_bytes w64 header ≡ length batch → first_block (1 ∷ (header ++ batch ++ rest)) ≡ block batch rest
first_is header batch rest eight size =
    let after = header ++ batch ++ rest in
    let parts : after ≡ header ++ (batch ++ rest) = append_assoc header batch rest in
    let is : batch_size after ≡ length batch = ap batch_size parts ∙ batch_size_is header (batch ++ rest) eight ∙ size in
    let fits : nat_le (8 + length batch) (length after) ≡ true = le-leb _ _ (omega (arith, eight, length-append (header ++ batch) rest, length-append header batch)) in
    let behind : drop 8 after ≡ batch ++ rest = ap (drop 8) parts ∙ drop_at header (batch ++ rest) 8 eight in
    let first : take (length batch) (drop 8 after) ≡ batch = ap (take (length batch)) behind ∙ take_at batch rest (length batch) refl in
    let then : drop (8 + length batch) after ≡ rest = drop_at (header ++ batch) rest (8 + length batch) (omega (arith, eight, length-append header batch)) in
    rw (is, fits, first, then) refl

pub first_of : (file batch rest : List ℕ) → Opens file batch rest → first_block file ≡ block batch rest
first_of file batch rest o = ap first_block o.split ∙ first_is o.header batch rest o.eight o.size

-- the batch that the header tells stands there
opens_here : (after : List ℕ) → 8 + batch_size after ≤ length after → Opens (1 ∷ after) (take (batch_size after) (drop 8 after)) (drop (8 + batch_size after) after)
opens_here after fits =
    let n = batch_size after in
    let batch = take n (drop 8 after) in
    let then : drop 8 after ≡ batch ++ drop (8 + n) after = sym (take-append-drop n (drop 8 after)) ∙ ap (λ (l : List ℕ). batch ++ l) (drop-drop n 8 after) in
    record {
      header = take 8 after;
      split = ap (λ (l : List ℕ). 1 ∷ l) (sym (take-append-drop 8 after) ∙ ap (λ (l : List ℕ). take 8 after ++ l) then ∙ sym (append_assoc (take 8 after) batch (drop (8 + n) after)));
      eight = omega (arith, length-take 8 after, fits);
      size = size_is after ∙ omega (arith, length-take n (drop 8 after), length-drop 8 after, fits);
    }

-- such a block, or none
pub first_view : (file : List ℕ) → (first_block file ≡ None) ⊎ ((batch rest : List ℕ) × Opens file batch rest)
first_view [] = inl refl
first_view (gate ∷ after) = elim (cases_Bool (eqb gate 1 && nat_le (8 + batch_size after) (length after))) [
  | inl both ↦
      let (one, fits) = and_parts (eqb gate 1) (nat_le (8 + batch_size after) (length after)) both in
      let is : gate ≡ 1 = eqb-true _ _ one in
      let o = opens_here after (leb-true _ _ fits) in
      inr (take (batch_size after) (drop 8 after), drop (8 + batch_size after) after, subst (λ (g : ℕ). Opens (g ∷ after) (take (batch_size after) (drop 8 after)) (drop (8 + batch_size after) after)) (sym is) o)
  | inr lacks ↦ inl (rw lacks refl)
]

pub length_of : (file batch rest : List ℕ) → Opens file batch rest → length file ≡ 9 + length batch + length rest
length_of file batch rest o = ap length o.split ∙ omega (arith, o.eight, length-append (o.header ++ batch) rest, length-append o.header batch)

-- ---- the batches
fuel : (m n : ℕ) (file : List ℕ) → length file ≤ m → length file ≤ n → recovered_within m file ≡ recovered_within n file
unfolding recovered_within
fuel zero zero file p q = refl
fuel zero (suc n) [] p q = refl
fuel zero (suc n) (b ∷ file) p q = absurd (omega (arith, p))
fuel (suc m) zero [] p q = refl
fuel (suc m) zero (b ∷ file) p q = absurd (omega (arith, q))
fuel (suc m) (suc n) file p q = elim (first_view file) [
  | inl none ↦ rw none refl
  | inr opens ↦
      let (batch, rest, o) = opens in
      let long = length_of file batch rest o in
      rw (first_of file batch rest o) (ap (λ (l : List (List ℕ)). batch ∷ l) (fuel m n rest (omega (arith, long, p)) (omega (arith, long, q))))
]

pub recovered_none : (file : List ℕ) → first_block file ≡ None → recovered file ≡ []
unfolding recovered recovered_within
recovered_none [] none = refl
recovered_none (b ∷ file) none = ap (batch_and (recovered_within (length file))) none

recovered_block : (header batch rest : List ℕ) → length header ≡ 8 → from_le_bytes w64 header ≡ length batch → recovered (1 ∷ (header ++ batch ++ rest)) ≡ batch ∷ recovered rest
unfolding recovered recovered_within
recovered_block header batch rest eight size =
    let after = header ++ batch ++ rest in
    ap (batch_and (recovered_within (length after))) (first_is header batch rest eight size)
    ∙ ap (λ (l : List (List ℕ)). batch ∷ l) (fuel (length after) (length rest) rest (omega (arith, length-append (header ++ batch) rest)) (omega arith))

pub recovered_opens : (file batch rest : List ℕ) → Opens file batch rest → recovered file ≡ batch ∷ recovered rest
recovered_opens file batch rest o = ap recovered o.split ∙ recovered_block o.header batch rest o.eight o.size

-- ---- a file that has blocks

opens_more : (file batch rest more : List ℕ) → Opens file batch rest → Opens (file ++ more) batch (rest ++ more)
opens_more file batch rest more o = record {
  header = o.header;
  split = ap (λ (l : List ℕ). l ++ more) o.split ∙ append_assoc (1 ∷ o.header ++ batch) rest more;
  eight = o.eight;
  size = o.size;
}

module _ (file batch rest : List ℕ) (o : Opens file batch rest) (n : ℕ) where
  abbrev front : List ℕ
  front = 1 ∷ o.header ++ batch

  size : 9 + length batch + n ≡ length front + n
  size = omega (arith, o.eight, length-append o.header batch)

  opens_front : Opens (take (9 + length batch + n) file) batch (take n rest)
  opens_front = record {
    header = o.header;
    split = ap (λ (k : ℕ). take k file) size ∙ ap (take (length front + n)) o.split ∙ take-append-add front rest n;
    eight = o.eight;
    size = o.size;
  }

  drop_block : drop (9 + length batch + n) file ≡ drop n rest
  drop_block = ap (λ (k : ℕ). drop k file) size ∙ ap (drop (length front + n)) o.split ∙ drop-append-add front rest n

head_is : (a b : List ℕ) (xs ys : List (List ℕ)) → a ∷ xs ≡ b ∷ ys → (b ≡ a) × (xs ≡ ys)
head_is a b xs ys e = (cc, cc)

-- what stands behind the whole blocks doesn't matter to them
pub adds : (bs : List (List ℕ)) (file more : List ℕ) → recovered file ≡ bs → recovered (take (blocks_length bs) file ++ more) ≡ bs ++ recovered more
adds [] file more e = refl
adds (b ∷ bs) file more e = elim (first_view file) [
  | inl none ↦ let nothing = recovered_none file none in absurd (cc (nothing, e))
  | inr opens ↦
      let (batch, rest, o) = opens in
      let (one, others) = head_is batch b (recovered rest) bs (sym (recovered_opens file batch rest o) ∙ e) in
      let here = opens_more _ batch _ more (opens_front file batch rest o (blocks_length bs)) in
      ap (λ (l : List ℕ). recovered (take (9 + length l + blocks_length bs) file ++ more)) one
      ∙ recovered_opens _ batch _ here ∙ ap (λ (l : List (List ℕ)). batch ∷ l) (adds bs rest more others) ∙ ap (λ (l : List ℕ). l ∷ bs ++ recovered more) (sym one)
]

-- behind them stands no block
pub behind : (bs : List (List ℕ)) (file : List ℕ) → recovered file ≡ bs → first_block (drop (blocks_length bs) file) ≡ None
behind [] file e = elim (first_view file) [
  | inl none ↦ none
  | inr opens ↦ let (batch, rest, o) = opens in let some = recovered_opens file batch rest o in absurd (cc (some, e))
]
behind (b ∷ bs) file e = elim (first_view file) [
  | inl none ↦ let nothing = recovered_none file none in absurd (cc (nothing, e))
  | inr opens ↦
      let (batch, rest, o) = opens in
      let (one, others) = head_is batch b (recovered rest) bs (sym (recovered_opens file batch rest o) ∙ e) in
      ap (λ (l : List ℕ). first_block (drop (9 + length l + blocks_length bs) file)) one ∙ ap first_block (drop_block file batch rest o (blocks_length bs)) ∙ behind bs rest others
]

pub fits_in : (bs : List (List ℕ)) (file : List ℕ) → recovered file ≡ bs → blocks_length bs ≤ length file
fits_in [] file e = omega arith
fits_in (b ∷ bs) file e = elim (first_view file) [
  | inl none ↦ let nothing = recovered_none file none in absurd (cc (nothing, e))
  | inr opens ↦
      let (batch, rest, o) = opens in
      let (one, others) = head_is batch b (recovered rest) bs (sym (recovered_opens file batch rest o) ∙ e) in
      omega (arith, ap length one, fits_in bs rest others, length_of file batch rest o)
]

-- ---- ends that have no block
pub front_none : (n : ℕ) (file : List ℕ) → first_block file ≡ None → first_block (take n file) ≡ None
front_none n file none = elim (first_view (take n file)) [
  | inl is ↦ is
  | inr opens ↦
      let (batch, rest, o) = opens in
      let whole = subst (λ (l : List ℕ). Opens l batch (rest ++ drop n file)) (take-append-drop n file) (opens_more _ batch rest (drop n file) o) in
      let some = first_of file batch _ whole in
      absurd (cc (some, none))
]

pub short_none : (file : List ℕ) → length file < 9 → first_block file ≡ None
short_none file short = elim (first_view file) [
  | inl is ↦ is
  | inr opens ↦ let (batch, rest, o) = opens in absurd (omega (arith, length_of file batch rest o))
]

pub closed : (gate : ℕ) (rest : List ℕ) → gate ≢ 1 → first_block (gate ∷ rest) ≡ None
closed gate rest shut = rw (ne_eqb gate 1 shut) refl

-- ---- what is written
pub opens_written : (batch rest : List ℕ) → length batch < 2 ^ 64 → Opens (1 ∷ to_le_bytes w64 (length batch) ++ batch ++ rest) batch rest
opens_written batch rest fits = record {
  header = to_le_bytes w64 (length batch);
  split = refl;
  eight = refl;
  size = from_le_bytes-to_le_bytes_8 (length batch) fits;
}

pub blocks_length-append : (bs : List (List ℕ)) (batch : List ℕ) → blocks_length (bs ++ batch ∷ []) ≡ blocks_length bs + (9 + length batch)
blocks_length-append [] batch = omega arith
blocks_length-append (b ∷ bs) batch = omega (arith, blocks_length-append bs batch)
