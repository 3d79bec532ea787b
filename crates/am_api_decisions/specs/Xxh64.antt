-- XXH64 with seed 0: the xxHash specification, "XXH64 algorithm description". A message is a list of bytes, a hash is a
-- number below 2 ^ 64, and the steps are the specification's.
use Rattle.std.specs.Prelude.{ℕ, zero, suc, ◌+◌, ◌-◌, ◌*◌, ◌/◌, ◌%◌, ◌^◌, nat_lt, List, [], ◌∷◌, length, drop, bit_xor, slice_index, if◌then◌else◌}
use Rattle.std.specs.Int.{w32, w64, rotate_left, from_le_bytes}
use Rattle.std.specs.List.{fold}

-- the primes
abbrev pub prime_1 : ℕ
prime_1 = 0x9E3779B185EBCA87

abbrev pub prime_2 : ℕ
prime_2 = 0xC2B2AE3D27D4EB4F

abbrev pub prime_3 : ℕ
prime_3 = 0x165667B19E3779F9

abbrev pub prime_4 : ℕ
prime_4 = 0x85EBCA77C2B2AE63

abbrev pub prime_5 : ℕ
prime_5 = 0x27D4EB2F165667C5

-- sums and products of 64 bits
abbrev pub plus : ℕ → ℕ → ℕ
plus x y = (x + y) % 2 ^ 64

abbrev pub times : ℕ → ℕ → ℕ
times x y = (x * y) % 2 ^ 64

-- a lane: the eight bytes at a place, low byte first
unfoldable pub lane_at : List ℕ → ℕ → ℕ
lane_at bytes place = from_le_bytes w64
    (slice_index bytes place ∷ slice_index bytes (place + 1) ∷ slice_index bytes (place + 2) ∷ slice_index bytes (place + 3)
    ∷ slice_index bytes (place + 4) ∷ slice_index bytes (place + 5) ∷ slice_index bytes (place + 6) ∷ slice_index bytes (place + 7) ∷ [])

-- ---- steps 1 and 2: stripes of 32 bytes go into four accumulators

abbrev pub first_accumulators : List ℕ
first_accumulators = plus prime_1 prime_2 ∷ prime_2 ∷ 0 ∷ (2 ^ 64 - prime_1) ∷ []

-- an accumulator that has taken in a lane
unfoldable pub round : ℕ → ℕ → ℕ
round accumulator lane = times (rotate_left w64 (plus accumulator (times lane prime_2)) 31) prime_1

-- the accumulators, each of which has taken in its lane of the stripe at a place
unfoldable pub add_stripe : List ℕ → List ℕ → ℕ → List ℕ
add_stripe accumulators bytes place =
    round (slice_index accumulators 0) (lane_at bytes place)
    ∷ round (slice_index accumulators 1) (lane_at bytes (place + 8))
    ∷ round (slice_index accumulators 2) (lane_at bytes (place + 16))
    ∷ round (slice_index accumulators 3) (lane_at bytes (place + 24)) ∷ []

-- the accumulators after the first n stripes
unfoldable pub stripes : List ℕ → ℕ → List ℕ
stripes bytes zero = first_accumulators
stripes bytes (suc n) = add_stripe (stripes bytes n) bytes (32 * n)

-- ---- step 3: the accumulators converge

unfoldable pub merge : ℕ → ℕ → ℕ
merge hash accumulator = plus (times (bit_xor hash (round 0 accumulator)) prime_1) prime_4

abbrev pub rotated_sum : ℕ → ℕ → ℕ → ℕ → ℕ
rotated_sum a b c d = plus (plus (plus (rotate_left w64 a 1) (rotate_left w64 b 7)) (rotate_left w64 c 12)) (rotate_left w64 d 18)

abbrev pub converged_of : ℕ → ℕ → ℕ → ℕ → ℕ
converged_of a b c d = merge (merge (merge (merge (rotated_sum a b c d) a) b) c) d

unfoldable pub converged : List ℕ → ℕ
converged v = converged_of (slice_index v 0) (slice_index v 1) (slice_index v 2) (slice_index v 3)

-- a message shorter than a stripe begins with a prime
unfoldable pub begun : List ℕ → ℕ
begun bytes = if nat_lt (length bytes) 32 then prime_5 else converged (stripes bytes (length bytes / 32))

-- ---- step 5: what is left goes in by lanes, then half a lane, then by bytes

unfoldable pub add_lane : ℕ → ℕ → ℕ
add_lane hash lane = plus (times (rotate_left w64 (bit_xor hash (round 0 lane)) 27) prime_1) prime_4

-- the hash that has taken in the first n lanes
unfoldable pub add_lanes : ℕ → List ℕ → ℕ → ℕ
add_lanes hash bytes zero = hash
add_lanes hash bytes (suc n) = add_lane (add_lanes hash bytes n) (lane_at bytes (8 * n))

-- the first four bytes
abbrev pub half_lane : List ℕ → ℕ
half_lane bytes = from_le_bytes w32 (slice_index bytes 0 ∷ slice_index bytes 1 ∷ slice_index bytes 2 ∷ slice_index bytes 3 ∷ [])

unfoldable pub add_half : ℕ → List ℕ → ℕ
add_half hash bytes =
    if nat_lt (length bytes) 4 then hash
    else plus (times (rotate_left w64 (bit_xor hash (times (half_lane bytes) prime_1)) 23) prime_2) prime_3

unfoldable pub add_byte : ℕ → ℕ → ℕ
add_byte hash byte = times (rotate_left w64 (bit_xor hash (times byte prime_5)) 11) prime_1

-- the bytes behind all whole pieces of a size
abbrev pub behind_whole : ℕ → List ℕ → List ℕ
behind_whole size bytes = drop (length bytes / size * size) bytes

unfoldable pub consumed : ℕ → List ℕ → ℕ
consumed hash rest =
    fold add_byte (add_half (add_lanes hash rest (length rest / 8)) (behind_whole 8 rest)) (behind_whole 4 (behind_whole 8 rest))

-- ---- step 6: the bits are mixed

abbrev pub xor_shift : ℕ → ℕ → ℕ
xor_shift hash by = bit_xor hash (hash / 2 ^ by)

unfoldable pub avalanche : ℕ → ℕ
avalanche hash = xor_shift (times (xor_shift (times (xor_shift hash 33) prime_2) 29) prime_3) 32

-- ---- the hash of a message; its length is added before what is left (step 4)
unfoldable pub xxh64 : List ℕ → ℕ
xxh64 bytes = avalanche (consumed (plus (begun bytes) (length bytes)) (behind_whole 32 bytes))
