-- The text of a frame: the byte of its kind, the length of its payload, and the payload.
use Rattle.std.specs.Prelude.{◌≡◌, ℕ, Bool, nat_le, List, [], ◌∷◌, ◌++◌, length, Result, Ok}
use Rattle.am_wire.specs.Varint.{shortest}
use Rattle.am_gossip.specs.declared.error.FrameError.{FrameError}
use Rattle.am_gossip.specs.declared.kind.FrameKind.{FrameKind}
use Rattle.am_gossip.specs.declared.kind.FrameKind.TheVariants as kinds
use Rattle.am_gossip.specs.declared.frame.Frame.{Frame}
use Rattle.am_gossip.specs.declared.frame.Frame.TheVariants.{Delta, Push, Pull, Tick}
use Rattle.am_gossip.specs.Answers.{◌>>=◌}
use Rattle.am_gossip.specs.Kinds.{code_of, limit}
use Rattle.am_gossip.specs.declared.frame.Part.{Part}
use Rattle.am_gossip.specs.declared.frame.StateKey.TheVariants as keys
use Rattle.am_gossip.specs.Parts.{reads_part, writes_part, reads_parts, writes_parts}

-- the kind of a frame
abbrev pub kind_of : Frame → FrameKind
kind_of (Delta p) = kinds.Delta
kind_of (Push parts) = kinds.Push
kind_of (Pull parts) = kinds.Pull
kind_of Tick = kinds.Tick

-- the canonical payload of a frame
abbrev pub payload_encoding : Frame → List ℕ
payload_encoding (Delta p) = writes_part p
payload_encoding (Push parts) = writes_parts parts
payload_encoding (Pull parts) = writes_parts parts
payload_encoding Tick = []

-- the canonical encoding of a frame
abbrev pub frame_encoding : Frame → List ℕ
frame_encoding f = code_of (kind_of f) ∷ (shortest (length (payload_encoding f)) ++ payload_encoding f)

-- the second bytes begin with the first
abbrev pub BeginsWith : List ℕ → List ℕ → Type 0
BeginsWith front bytes = (rest : List ℕ) × (bytes ≡ front ++ rest)

-- the payload is within the limit of its kind
abbrev pub fits : Frame → Bool
fits f = nat_le (length (payload_encoding f)) (limit (kind_of f))

-- the parts of a full state, from the rows of both states, with the silences first
abbrev pub states : List ℕ → List ℕ → List Part
states silences log = record { key = keys.Sil; bytes = silences } ∷ record { key = keys.Nfl; bytes = log } ∷ []

-- the frame of a kind that a payload spells, or its first fault
unfoldable pub reads_payload : FrameKind → List ℕ → Result Frame FrameError
reads_payload kinds.Delta bytes = reads_part 0 bytes >>= (λ p. Ok (Delta p))
reads_payload kinds.Push bytes = reads_parts bytes >>= (λ parts. Ok (Push parts))
reads_payload kinds.Pull bytes = reads_parts bytes >>= (λ parts. Ok (Pull parts))
reads_payload kinds.Tick bytes = Ok Tick
