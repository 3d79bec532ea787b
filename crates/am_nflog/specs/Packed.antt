-- The rest of an iteration over alert hashes.
use Rattle.std.specs.Prelude.{◌≡◌, ℕ, ◌<◌, ◌^◌, List, All}
use Rattle.std.specs.List.{flat_map}
use Rattle.am_wire.specs.Reading.{unpacked, until_fault}
use Rattle.am_wire.specs.Varint.{shortest}
use Rattle.am_nflog.specs.declared.hash_iter.Rest.{Rest}
use Rattle.am_nflog.specs.declared.hash_iter.Rest.TheVariants.{Listed, Packed}

-- the hashes that packed bytes spell
abbrev pub packed_in : List ℕ → List ℕ
packed_in bytes = until_fault (unpacked 0 bytes)

-- the hashes to come
abbrev pub hashes_in : Rest → List ℕ
hashes_in (Listed hashes) = hashes.now
hashes_in (Packed bytes) = packed_in bytes.now

-- the packed bytes are the shortest spellings of their hashes, one after another
abbrev pub IsPacked : List ℕ → Type 0
IsPacked bytes = (bytes ≡ flat_map shortest (packed_in bytes)) × All (λ n. n < 2 ^ 64) (packed_in bytes)

-- the hashes to come, if they are packed, are in their shortest spellings
abbrev pub IsSpelled : Rest → Type 0
IsSpelled (Listed hashes) = Unit {0}
IsSpelled (Packed bytes) = IsPacked bytes.now
