-- The frames in sealed bytes, each after its length and a correct sum.
use Rattle.std.specs.Prelude.{◌≡◌, ◌⊎◌, ℕ, ◌+◌, ◌^◌, ◌<◌, ◌≤◌, List, [], ◌∷◌, length, take, drop, Option, Some, None, Result, Ok, Err, IfSome, ⊤}
use Rattle.std.specs.Int.{w32, from_be_bytes}
use Rattle.am_gossip.specs.declared.frame.Frame.{Frame}
use Rattle.am_peer_auth.specs.declared.opening.Front.{Front}
use Rattle.am_peer_auth.specs.declared.opening.Front.TheVariants.{Taken, Waits, Refused}
use Rattle.am_peer_auth.specs.declared.seal.Lock.{Lock}
use Rattle.am_peer_auth.specs.declared.seal.SealError.{SealError}
use Rattle.am_peer_auth.specs.declared.seal.SealError.TheVariants.{Length, Sum, NotOneFrame, Number, Memory}
use Rattle.am_peer_auth.specs.declared.sequence.Sequence.{Sequence}
use Rattle.am_peer_auth.specs.Seals.{IsOnly, IsRight}
use Rattle.am_peer_auth.specs.Sequences.{next_in}
use Rattle.am_peer_auth.specs.Summings.{CoversIn}

-- the sum at the front of the bytes; the length after it; the encoding of that length after both; and the bytes after all three
abbrev pub sum_in : List ℕ → List ℕ
sum_in bytes = take 32 bytes

unfoldable pub size_in : List ℕ → ℕ
size_in bytes = from_be_bytes w32 (take 4 (drop 32 bytes))

abbrev pub encoding_in : List ℕ → List ℕ
encoding_in bytes = take (size_in bytes) (drop 4 (drop 32 bytes))

abbrev pub rest_of : List ℕ → List ℕ
rest_of bytes = drop (36 + size_in bytes) bytes

-- the longest encoding of a frame: 67,108,864 bytes of a payload, and 11 before them
abbrev pub most_encoding : ℕ
most_encoding = 67108875

-- a whole sealed frame stands at the front of the bytes
pub record IsWhole (bytes : List ℕ) : Type 0 where
  pub head : 36 ≤ length bytes
  pub short : size_in bytes ≤ most_encoding
  pub within : 36 + size_in bytes ≤ length bytes

-- the bytes end before a sealed frame is whole
abbrev pub IsShort : List ℕ → Type 0
IsShort bytes = (length bytes < 36) ⊎ ((size_in bytes ≤ most_encoding) × (length bytes < 36 + size_in bytes))

-- This frame is taken from the front of the bytes: it stands there whole, its sum is correct for its sender, for its receiver and
-- for
-- this place in the connection, and its encoding is this frame.
pub record IsTaken (lock : Lock) (sender : List ℕ) (place : Sequence) (bytes : List ℕ) (frame : Frame) : Type 0 where
  pub whole : IsWhole bytes
  pub right : IsRight lock sender place (sum_in bytes) (encoding_in bytes)
  pub is : IsOnly (encoding_in bytes) frame

-- No frame is taken, for this reason: its length is over the limit; its sum isn't correct; its sum is correct, but its encoding is no
-- frame; there is no number for a next frame; or memory ran out.
abbrev pub IsRefused : Lock → List ℕ → Sequence → List ℕ → SealError → Type 0
IsRefused lock sender place bytes Length = (36 ≤ length bytes) × (most_encoding < size_in bytes)
IsRefused lock sender place bytes Sum = IsWhole bytes × (¬ IsRight lock sender place (sum_in bytes) (encoding_in bytes))
IsRefused lock sender place bytes NotOneFrame =
    IsWhole bytes × IsRight lock sender place (sum_in bytes) (encoding_in bytes) × ((frame : Frame) → ¬ IsOnly (encoding_in bytes) frame)
IsRefused lock sender place bytes Number = 2 ^ 64 ≤ place.number + 1
IsRefused lock sender place bytes Memory = ⊤

-- the front of the bytes, as the code finds it
abbrev pub StandsFirst : Lock → List ℕ → Sequence → List ℕ → Front → Type 0
StandsFirst lock sender place bytes (Taken frame len next) = IsTaken lock sender place bytes frame × (len ≡ 36 + size_in bytes) × (next ≡ next_in place)
StandsFirst lock sender place bytes (Waits summing) = IsShort bytes × IfSome summing (CoversIn bytes)
StandsFirst lock sender place bytes (Refused e) = IsRefused lock sender place bytes e

-- no more is taken: the next frame isn't whole, and its bytes wait; or it is refused
abbrev pub EndsSo : Lock → List ℕ → Sequence → List ℕ → Result (List ℕ) SealError → Type 0
EndsSo lock sender place bytes (Ok rest) = (rest ≡ bytes) × IsShort bytes
EndsSo lock sender place bytes (Err e) = IsRefused lock sender place bytes e

-- Exactly these frames are taken from the bytes, one after another, from this place in the connection on, each at the next place;
-- and
-- this is the ending after them.
abbrev pub Opens : Lock → List ℕ → Sequence → List ℕ → List Frame → Result (List ℕ) SealError → Type 0
Opens lock sender place bytes [] ending = EndsSo lock sender place bytes ending
Opens lock sender place bytes (frame ∷ frames) ending = IsTaken lock sender place bytes frame × Opens lock sender (next_in place) (rest_of bytes) frames ending

-- the bytes that wait, or the reason why no more is taken
abbrev pub ended : List ℕ → Option SealError → Result (List ℕ) SealError
ended rest None = Ok rest
ended rest (Some e) = Err e
