-- Numbers in groups of seven bits, the lowest first; the top bit says that another group follows.
use Rattle.std.specs.Prelude.{◌≡◌, ℕ, zero, suc, ◌+◌, ◌*◌, ◌/◌, ◌%◌, ◌^◌, ◌<◌, ◌≤◌, List, []}
use Rattle.std.specs.Prelude.{◌∷◌, length, Result, Ok, Err, nat_lt, if◌then◌else◌}
use Rattle.am_wire.specs.declared.error.WireError.{WireError}
use Rattle.am_wire.specs.declared.error.WireError.TheVariants.{Truncated, LongVarint}

-- the number that the groups stand for
abbrev pub total : List ℕ → ℕ
total [] = 0
total (b ∷ bs) = b % 128 + 128 * total bs

-- each byte has the top bit, except for the last
abbrev pub IsChain : List ℕ → Type 0
IsChain [] = ⊥
IsChain (b ∷ []) = b < 128
IsChain (b ∷ c ∷ bs) = (128 ≤ b) × IsChain (c ∷ bs)

-- the text is a spelling of n, not necessarily the shortest
pub record IsVarint (text : List ℕ) (n : ℕ) : Type 0 where
  pub chain : IsChain text
  pub short : length text ≤ 10
  pub value : n ≡ total text
  pub fits : n < 2 ^ 64

-- the number and the length of a group of seven bits followed by others
abbrev pub one_more : ℕ → Result (ℕ × ℕ) WireError → Result (ℕ × ℕ) WireError
one_more b (Ok x) = Ok (b % 128 + 128 * x.0, x.1 + 1)
one_more b (Err e) = Err e

-- The number spelled at the front of the bytes, and its length. `room` more bytes may follow the first one, and a fault is
-- reported at the offset `at`.
unfoldable pub varint_within : ℕ → ℕ → List ℕ → Result (ℕ × ℕ) WireError
varint_within at room [] = Err (Truncated at)
varint_within at zero (b ∷ bs) = if nat_lt b 2 then Ok (b, 1) else Err (LongVarint at)
varint_within at (suc room) (b ∷ bs) = if nat_lt b 128 then Ok (b, 1) else one_more b (varint_within at room bs)

-- the number of 64 bits spelled at the front of the bytes, and its length
abbrev pub varint_at : ℕ → List ℕ → Result (ℕ × ℕ) WireError
varint_at at bytes = varint_within at 9 bytes

-- the groups of a number, of which `room` may follow the first one
unfoldable pub groups : ℕ → ℕ → List ℕ
groups zero n = n % 128 ∷ []
groups (suc room) n = if nat_lt n 128 then n ∷ [] else (128 + n % 128) ∷ groups room (n / 128)

-- the shortest spelling of a number of 64 bits
abbrev pub shortest : ℕ → List ℕ
shortest n = groups 9 n
