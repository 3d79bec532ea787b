-- The seal of a frame: the message that its sum covers, and the encodings that are taken.
use Rattle.std.specs.Prelude.{◌≡◌, ℕ, List, [], ◌∷◌, ◌++◌, length, ⊤, Ok}
use Rattle.std.specs.Int.{w32, w64, to_be_bytes}
use Rattle.am_gossip.specs.declared.frame.Frame.{Frame}
use Rattle.am_gossip.specs.Frames.{frame_encoding}
use Rattle.am_gossip.specs.Streams.{stream_of}
use Rattle.am_peer_auth.specs.declared.seal.Lock.{Lock}
use Rattle.am_peer_auth.specs.declared.seal.SealError.{SealError}
use Rattle.am_peer_auth.specs.declared.seal.SealError.TheVariants.{Length, Sum, NotOneFrame, Number, Memory}
use Rattle.am_peer_auth.specs.declared.sequence.Sequence.{Sequence}
use Rattle.am_peer_auth.specs.Macs.{hmac}
use Rattle.am_peer_auth.specs.Sequences.{next_in}

-- the front of the message that a sum covers: the challenge of the connection; the number of the frame in it, in 8 bytes; and
-- the sender and the addressee, each after its length in 8 bytes
abbrev pub message_front : Sequence → List ℕ → List ℕ → List ℕ
message_front place sender addressee = place.challenge ++ to_be_bytes w64 place.number ++ to_be_bytes w64 (length sender) ++ sender
    ++ to_be_bytes w64 (length addressee) ++ addressee

-- the message that a sum covers: its front, and the frame's bytes
abbrev pub sealed_message : Sequence → List ℕ → List ℕ → List ℕ → List ℕ
sealed_message place sender addressee encoding = message_front place sender addressee ++ encoding

-- the sum of a frame's bytes at a place in its connection, from a sender to an addressee
unfoldable pub seal_sum : List ℕ → Sequence → List ℕ → List ℕ → List ℕ → List ℕ
seal_sum secret place sender addressee encoding = hmac secret (sealed_message place sender addressee encoding)

-- a sum is correct for a sender, for the receiver, for a place in the connection, and for a frame's bytes
abbrev pub IsRight : Lock → List ℕ → Sequence → List ℕ → List ℕ → Type 0
IsRight lock sender place sum encoding = sum ≡ seal_sum lock.secret.now place sender lock.name.now encoding

-- an encoding is exactly one frame
abbrev pub IsOnly : List ℕ → Frame → Type 0
IsOnly encoding frame = stream_of encoding ≡ record { frames = frame ∷ []; ending = Ok [] }

-- the reason why an encoding isn't taken: its sum isn't correct; its sum is correct, but it isn't one frame; or memory ran out
abbrev pub IsUntaken : Lock → List ℕ → Sequence → List ℕ → List ℕ → SealError → Type 0
IsUntaken lock sender place sum encoding Sum = ¬ IsRight lock sender place sum encoding
IsUntaken lock sender place sum encoding NotOneFrame = IsRight lock sender place sum encoding × ((frame : Frame) → ¬ IsOnly encoding frame)
IsUntaken lock sender place sum encoding Memory = ⊤
IsUntaken lock sender place sum encoding Length = ⊥
IsUntaken lock sender place sum encoding Number = ⊥

-- the reason why an encoding is no frame
abbrev pub IsNoFrame : List ℕ → SealError → Type 0
IsNoFrame encoding NotOneFrame = (frame : Frame) → ¬ IsOnly encoding frame
IsNoFrame encoding Memory = ⊤
IsNoFrame encoding _ = ⊥

-- a sealed frame as it is sent: its sum, its length in 4 bytes, and its encoding
abbrev pub sealed_frame : Lock → List ℕ → Sequence → Frame → List ℕ
sealed_frame lock addressee place frame =
    seal_sum lock.secret.now place lock.name.now addressee (frame_encoding frame) ++ to_be_bytes w32 (length (frame_encoding frame)) ++ frame_encoding frame

-- sealed frames as they are sent, from a place in the connection on, each at the next place
abbrev pub sealed_frames : Lock → List ℕ → Sequence → List Frame → List ℕ
sealed_frames lock addressee place [] = []
sealed_frames lock addressee place (frame ∷ frames) = sealed_frame lock addressee place frame ++ sealed_frames lock addressee (next_in place) frames
