-- The texts of hashes.
use Rattle.std.proofs.Common.{◌≡◌, ℕ, zero, suc, ◌+◌, ◌*◌, ◌/◌, ◌%◌, ◌^◌, ◌<◌, ◌≤◌, ◌==◌, ◌&&◌, Bool, true, List, [], ◌∷◌, length, get_or, Option, Some, None, unwrap_or, option_and_then, refl, ap, ◌∙◌, inl, inr, arith, pow-suc, mul_comm}
use Rattle.std.specs.Prelude.{slice_index}
use Rattle.std.specs.Str.{IsAscii, IsUtf8}
use Rattle.std.specs.Int.{w64, to_be_bytes, byte_at, bytes_high_first}
use Rattle.std.proofs.Math.Nat.{pow-le-pow_right}
use Rattle.std.proofs.Math.Arith.{mod-mul}
use Rattle.std.proofs.lemmas.Bool.{and_parts, cases_lt, eqb-true}
use Rattle.std.proofs.lemmas.Str.{IsUtf8-from_ascii}
use Rattle.std.proofs.lemmas.Str.Ascii.{IsAscii-from_reads}
use Rattle.hex.specs.Hex.{encode_with, encode_lower, lower_digits}
use Rattle.hex.proofs.HexLemmas.{IsAscii-encode_with, length-encode_with}
use Rattle.am_api_decisions.specs.Hashes.{hash_text, digit_value, value_after, hash_of}

-- ---- the text is UTF-8

abbrev AreLow : List ℕ → Type 0
AreLow [] = Unit {0}
AreLow (b ∷ bs) = (b < 128) × AreLow bs

low_at : (bs : List ℕ) → AreLow bs → (k : ℕ) → k < length bs → get_or bs k 0 < 128
low_at [] h k lt = absurd (omega arith)
low_at (b ∷ bs) h zero lt = h.0
low_at (b ∷ bs) h (suc k) lt = low_at bs h.1 k (omega arith)

digits_low : AreLow lower_digits
digits_low = (
  omega arith,
  (
    omega arith,
    (
      omega arith,
      (
        omega arith,
        (
          omega arith,
          (
            omega arith,
            (
              omega arith,
              (
                omega arith,
                (omega arith, (omega arith, (omega arith, (omega arith, (omega arith, (omega arith, (omega arith, (omega arith, tt)))))))),
              ),
            ),
          ),
        ),
      ),
    ),
  ),
)

digits_ascii : IsAscii lower_digits
digits_ascii = IsAscii-from_reads lower_digits 16 (omega arith) (λ k h. low_at lower_digits digits_low k h)

pub hex_utf8 : (bytes : List ℕ) → IsUtf8 (encode_lower bytes)
hex_utf8 bytes = IsUtf8-from_ascii (encode_lower bytes) (IsAscii-encode_with lower_digits bytes digits_ascii)

pub hash_utf8 : (hash : ℕ) → IsUtf8 (hash_text hash)
unfolding hash_text
hash_utf8 hash = hex_utf8 (to_be_bytes w64 hash)

-- ---- each digit is read as its value

abbrev reads_back : ℕ → Bool
reads_back d = unwrap_or (digit_value (slice_index lower_digits d)) 99 == d

abbrev all_read_back : ℕ → Bool
all_read_back zero = true
all_read_back (suc n) = reads_back n && all_read_back n

all_read_back-at : (n k : ℕ) → all_read_back n ≡ true → k < n → reads_back k ≡ true
all_read_back-at zero k h lt = absurd (omega arith)
all_read_back-at (suc n) k h lt =
    let parts = and_parts (reads_back n) (all_read_back n) h in
    elim (cases_lt k n) [
      | inl below ↦ all_read_back-at n k parts.1 below
      | inr top ↦
          let e : k ≡ n = omega arith in
          rw e parts.0
    ]

some_from_unwrap : (o : Option ℕ) (d : ℕ) → d < 16 → unwrap_or o 99 ≡ d → o ≡ Some d
some_from_unwrap (Some v) d lt e = ap Some e
some_from_unwrap None d lt e = absurd (omega arith)

digit_again : (d : ℕ) → d < 16 → digit_value (slice_index lower_digits d) ≡ Some d
digit_again d lt =
    some_from_unwrap (digit_value (slice_index lower_digits d)) d lt
    (eqb-true (unwrap_or (digit_value (slice_index lower_digits d)) 99) d (all_read_back-at 16 d refl lt))

-- ---- the text of a hash is read as the hash

one_more_digit : (number d value : ℕ) (rest : List ℕ) → digit_value d ≡ Some value → value_after number (d ∷ rest) ≡ value_after (number * 16 + value) rest
one_more_digit number d value rest e = ap (option_and_then (λ v. value_after (number * 16 + v) rest)) e

byte_on : (k n high : ℕ) → (high * 256 + byte_at k n) * 256 ^ k + n % 256 ^ k ≡ high * 256 ^ suc k + n % 256 ^ suc k
byte_on zero n high = omega arith
byte_on (suc k) n high =
    let unit = 256 ^ suc k in
    let wider : 256 ^ suc (suc k) ≡ 256 * unit = pow-suc 256 (suc k) ∙ mul_comm unit 256 in
    let some : 0 < unit = pow-le-pow_right {n = 256} (omega arith) {i = 0} {j = suc k} (omega arith) in
    rw (wider, mod-mul n {m = 256} {c = unit} (omega arith) some) (omega arith)

byte_low : (k n : ℕ) → byte_at k n < 256
byte_low zero n = omega arith
byte_low (suc k) n = omega arith

bytes_again : (k n number : ℕ) → value_after number (encode_with lower_digits (bytes_high_first k n)) ≡ Some (number * 256 ^ k + n % 256 ^ k)
unfolding encode_with
bytes_again zero n number = ap Some (omega arith)
bytes_again (suc k) n number =
    let byte = byte_at k n in
    let low : byte < 256 = byte_low k n in
    let rest = encode_with lower_digits (bytes_high_first k n) in
    let joined : (number * 16 + byte / 16) * 16 + byte % 16 ≡ number * 256 + byte = omega arith in
    one_more_digit number (slice_index lower_digits (byte / 16)) (byte / 16) (slice_index lower_digits (byte % 16) ∷ rest) (digit_again (byte / 16) (omega arith))
    ∙ one_more_digit (number * 16 + byte / 16) (slice_index lower_digits (byte % 16)) (byte % 16) rest (digit_again (byte % 16) (omega arith))
    ∙ ap (λ x. value_after x rest) joined ∙ bytes_again k n (number * 256 + byte) ∙ ap Some (byte_on k n number)

text_size : (hash : ℕ) → length (encode_lower (to_be_bytes w64 hash)) ≡ 16
text_size hash = length-encode_with lower_digits (to_be_bytes w64 hash)

pub hash_again : (hash : ℕ) → hash < 2 ^ 64 → hash_of (hash_text hash) ≡ Some hash
unfolding hash_text
hash_again hash fits = rw (text_size hash) (bytes_again 8 hash 0 ∙ ap Some (omega arith))

-- ---- a loop over digits

pub within : (number place value : ℕ) → number < 16 ^ place → place < 16 → value < 16 → number * 16 + value < 2 ^ 64
within number place value h lt low =
    let bound : 16 ^ place ≤ 16 ^ 15 = pow-le-pow_right {n = 16} (omega arith) {i = place} {j = 15} (omega arith) in
    omega arith
