-- HMAC-SHA256 (RFC 2104 over FIPS 180-4).
use Rattle.std.specs.Prelude.{◌≡◌, ℕ, ◌-◌, List, ◌++◌, length, map, replicate, bit_xor, nat_lt, if◌then◌else◌}
use Rattle.sha2.specs.Hashers.{Holds256}
use Rattle.sha2.specs.Sha256.{sha256}
use Rattle.am_peer_auth.specs.declared.mac.Mac.{Mac}

-- a key of more than a block, which has 64 bytes, is replaced by its digest
abbrev pub shortened : List ℕ → List ℕ
shortened key = if nat_lt 64 (length key) then sha256 key else key

-- the key as a block, padded with zeros
unfoldable pub key_block : List ℕ → List ℕ
key_block key = shortened key ++ replicate (64 - length (shortened key)) 0

-- a block with each byte XORed with a mark
abbrev pub marked : ℕ → List ℕ → List ℕ
marked mark block = map (λ byte. bit_xor byte mark) block

-- the digest of the key's block, marked for the inner hash, and the message
abbrev pub inner : List ℕ → List ℕ → List ℕ
inner key message = sha256 (marked 0x36 (key_block key) ++ message)

-- the digest of the key's block, marked for the outer hash, and the inner digest: the sum of a message under a key
unfoldable pub hmac : List ℕ → List ℕ → List ℕ
hmac key message = sha256 (marked 0x5c (key_block key) ++ inner key message)

-- the sum being computed is under this key, and of this message so far
abbrev pub Holds : Mac → List ℕ → List ℕ → Type 0
Holds mac key message = Holds256 mac.hasher (marked 0x36 (key_block key) ++ message) × (mac.outer ≡ marked 0x5c (key_block key))
