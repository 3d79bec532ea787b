-- Numbers that are packed one behind the other, each in its shortest spelling, are read one by one.
use Rattle.std.proofs.Common.{◌≡◌, ℕ, ◌<◌, ◌≤◌, ◌^◌, ◌==◌, List, [], ◌∷◌, ◌++◌, length, drop, length-append, Result, Ok, Err, IfOk, refl, sym, ap, subst, ◌∙◌, arith}
use Rattle.std.specs.Prelude.{All}
use Rattle.std.specs.List.{flat_map}
use Rattle.std.proofs.Math.Seq.{drop-append_seam}
use Rattle.std.proofs.lemmas.List.Elements.{All-head, All-tail}
use Rattle.am_wire.specs.declared.error.WireError.{WireError}
use Rattle.am_wire.specs.Varint.{varint_at, varint_within, shortest}
use Rattle.am_wire.specs.Fields.{pieces}
use Rattle.am_wire.specs.Reading.{until_fault}
use Rattle.am_wire.specs.RoundTrip.Varints.{varint_again, shortest_filled}
use Rattle.am_wire.proofs.Unpacking.{unpacked-first, none_alike}
use Rattle.am_nflog.specs.Packed.{packed_in, IsPacked}

-- each of them has 64 bits
abbrev AreShort : List ℕ → Type 0
AreShort ns = All (λ n. n < 2 ^ 64) ns

nothing_packed : packed_in [] ≡ []
unfolding pieces
nothing_packed = refl

pub packed_again : (ns : List ℕ) → All (λ n. n < 2 ^ 64) ns → packed_in (flat_map shortest ns) ≡ ns
packed_again [] short = nothing_packed
packed_again (n ∷ ns) short =
    let rest : List ℕ = flat_map shortest ns in
    let len : length (shortest n) ≤ length (shortest n ++ rest) = omega (arith, length-append (shortest n) rest) in
    let read = varint_again 0 n rest (All-head (λ m. m < 2 ^ 64) n ns short) in
    ap until_fault (unpacked-first 0 n (length (shortest n)) (shortest n ++ rest) read (shortest_filled n) len)
    ∙ ap (λ (bytes : List ℕ). n ∷ packed_in bytes) (drop-append_seam (shortest n) rest)
    ∙ ap (λ (ms : List ℕ). n ∷ ms) (packed_again ns (All-tail (λ m. m < 2 ^ 64) n ns short))

-- what is packed is the shortest spelling of what is read of it
pub is_packed : (bytes ns : List ℕ) → bytes ≡ flat_map shortest ns → All (λ n. n < 2 ^ 64) ns → IsPacked bytes
is_packed bytes ns is short =
    let read : packed_in bytes ≡ ns = ap packed_in is ∙ packed_again ns short in
    (is ∙ ap (flat_map shortest) (sym read), subst (λ (ms : List ℕ). All (λ n. n < 2 ^ 64) ms) (sym read) short)

pub reads_packed : (bytes ns : List ℕ) → bytes ≡ flat_map shortest ns → All (λ n. n < 2 ^ 64) ns → packed_in bytes ≡ ns
reads_packed bytes ns is short = ap packed_in is ∙ packed_again ns short

-- the first of packed numbers, and the others
record IsFirst (ns bytes : List ℕ) (n len : ℕ) : Type 0 where
  others : List ℕ
  numbers : ns ≡ n ∷ others
  within : len ≤ length bytes
  behind : drop len bytes ≡ flat_map shortest others
  short : All (λ m. m < 2 ^ 64) others

none_there : (n len : ℕ) → Ok (n, len) ≡ varint_at 0 [] → ⊥
unfolding varint_within
none_there n len read = absurd cc

module _ (m : ℕ) (ms bytes : List ℕ) (is : bytes ≡ flat_map shortest (m ∷ ms)) (short : AreShort (m ∷ ms)) where
  read_first : varint_at 0 bytes ≡ Ok (m, length (shortest m))
  read_first = ap (varint_at 0) is ∙ varint_again 0 m (flat_map shortest ms) (All-head (λ n. n < 2 ^ 64) m ms short)

  is_first : IsFirst (m ∷ ms) bytes m (length (shortest m))
  is_first = record {
    others = ms;
    numbers = refl;
    within = omega (arith, length-append (shortest m) (flat_map shortest ms), ap length is);
    behind = ap (drop (length (shortest m))) is ∙ drop-append_seam (shortest m) (flat_map shortest ms);
    short = All-tail (λ n. n < 2 ^ 64) m ms short;
  }

first_read : (ns bytes : List ℕ) (n len : ℕ) → bytes ≡ flat_map shortest ns → All (λ m. m < 2 ^ 64) ns → Ok (n, len) ≡ varint_at 0 bytes
    → IsFirst ns bytes n len
first_read [] bytes n len is short read = absurd (none_there n len (read ∙ ap (varint_at 0) is))
first_read (m ∷ ms) bytes n len is short read =
    let same : Ok (n, len) ≡ Ok (m, length (shortest m)) = read ∙ read_first m ms bytes is short in
    let number : m ≡ n = subst (λ (r : Result (ℕ × ℕ) WireError). IfOk r (λ x. m ≡ x.0)) (sym same) refl in
    let size : length (shortest m) ≡ len = subst (λ (r : Result (ℕ × ℕ) WireError). IfOk r (λ x. length (shortest m) ≡ x.1)) (sym same) refl in
    subst (λ (k : ℕ). IsFirst (m ∷ ms) bytes n k) size (subst (λ (k : ℕ). IsFirst (m ∷ ms) bytes k (length (shortest m))) number (is_first m ms bytes is short))

none_read : (ns bytes : List ℕ) (e : WireError) → bytes ≡ flat_map shortest ns → All (λ m. m < 2 ^ 64) ns → Err e ≡ varint_at 0 bytes → ns ≡ []
none_read [] bytes e is short read = refl
none_read (m ∷ ms) bytes e is short read =
    let same : Err e ≡ Ok (m, length (shortest m)) = read ∙ read_first m ms bytes is short in
    absurd (subst (λ (r : Result (ℕ × ℕ) WireError). IfOk r (λ x. ⊥)) same tt)

module _ (bytes : List ℕ) (packed : IsPacked bytes) where
  pub nothing_left : (e : WireError) → Err e ≡ varint_at 0 bytes → packed_in bytes ≡ []
  nothing_left e read = none_read (packed_in bytes) bytes e packed.0 packed.1 read

  module _ (n len : ℕ) (read : Ok (n, len) ≡ varint_at 0 bytes) where
    first : IsFirst (packed_in bytes) bytes n len
    first = first_read (packed_in bytes) bytes n len packed.0 packed.1 read

    pub len_within : len ≤ length bytes
    len_within = first.within

    pub others_packed : IsPacked (drop len bytes)
    others_packed = is_packed (drop len bytes) first.others first.behind first.short

    pub first_packed : packed_in bytes ≡ n ∷ packed_in (drop len bytes)
    first_packed = first.numbers ∙ ap (λ (ms : List ℕ). n ∷ ms) (sym (reads_packed (drop len bytes) first.others first.behind first.short))

-- packed numbers have bytes
pub filled_alike : (bytes : List ℕ) → IsPacked bytes → (length bytes == 0) ≡ (length (packed_in bytes) == 0)
filled_alike bytes packed = ap (λ (l : List ℕ). length l == 0) packed.0 ∙ none_alike (packed_in bytes)
