-- Sums of a frame's encoding that are made as the encoding comes.
use Rattle.std.specs.Prelude.{◌≡◌, ℕ, ◌≤◌, List, ◌++◌, length, take, drop}
use Rattle.am_peer_auth.specs.declared.summing.Summing.{Summing}
use Rattle.am_peer_auth.specs.Macs.{Holds}

-- the sum covers the first bytes of an encoding, behind the front of its own message, under its own secret
pub record Covers (summing : Summing) (encoding : List ℕ) : Type 0 where
  pub within : summing.count ≤ length encoding
  pub holds : Holds summing.mac summing.secret.items (summing.front.items ++ take summing.count encoding)

-- the sum is that of a whole encoding, behind this front, under this secret
pub record IsSumOf (summing : Summing) (secret front encoding : List ℕ) : Type 0 where
  pub secret_is : summing.secret.items ≡ secret
  pub front_is : summing.front.items ≡ front
  pub count : summing.count ≡ length encoding
  pub holds : Holds summing.mac secret (front ++ encoding)

-- the sum is one of which no encoding has come
pub record IsBegun (secret front : List ℕ) (summing : Summing) : Type 0 where
  pub secret_is : summing.secret.items ≡ secret
  pub front_is : summing.front.items ≡ front
  pub count : summing.count ≡ 0
  pub holds : Holds summing.mac secret front

-- the bytes behind the head of a sealed frame, as far as they have come
abbrev pub encoding_so_far : List ℕ → List ℕ
encoding_so_far bytes = drop 4 (drop 32 bytes)

-- the sum covers the beginning of the encoding of the sealed frame at the front of these bytes
abbrev pub CoversIn : List ℕ → Summing → Type 0
CoversIn bytes summing = Covers summing (encoding_so_far bytes)
