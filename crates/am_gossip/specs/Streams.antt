-- The stream of frames as which bytes are read.
use Rattle.std.specs.Prelude.{ℕ, zero, suc, ◌+◌, ◌-◌, List, [], ◌∷◌, ◌++◌, length, take, drop, Option, Some, None}
use Rattle.std.specs.Prelude.{Result, Ok, Err, nat_lt, if◌then◌else◌}
use Rattle.am_gossip.specs.declared.error.FrameError.{FrameError}
use Rattle.am_gossip.specs.declared.frame.Frame.{Frame}
use Rattle.am_gossip.specs.Frames.{reads_payload}
use Rattle.am_gossip.specs.Headers.{Header, head, bad, more, header_of}

-- The item at the front of bytes: a whole frame and its length, a fault, or neither if more bytes are needed.
pub data Front : Type 0 where
  whole : Frame → ℕ → Front
  fault : FrameError → Front
  incomplete : Front

-- the item that a whole payload makes: a frame or a fault
abbrev pub payload_front : ℕ → Result Frame FrameError → Front
payload_front len (Ok f) = whole f len
payload_front len (Err e) = fault e

-- the item behind a header, whose payload is read once it is whole
abbrev pub front_with : Header → List ℕ → Front
front_with (head kind size len) bytes = if nat_lt (length bytes) (len + size) then incomplete
    else payload_front (len + size) (reads_payload kind (take size (drop len bytes)))
front_with (bad e) bytes = fault e
front_with more bytes = incomplete

-- the item at the front of the bytes
unfoldable pub front_of : List ℕ → Front
front_of bytes = front_with (header_of bytes) bytes

-- The frames of a stream in their order, and its end: a rest with neither a frame nor a fault at its front, or a fault.
pub record Stream : Type 0 where
  pub frames : List Frame
  pub ending : Result (List ℕ) FrameError

-- the stream with these frames before its own
abbrev pub put_before : List Frame → Stream → Stream
put_before frames s = record { frames = frames ++ s.frames; ending = s.ending }

-- the stream of bytes with this item at their front, behind which `others` gives the stream
abbrev pub next_frame : (ℕ → Stream) → List ℕ → Front → Stream
next_frame others bytes (whole f len) = put_before (f ∷ []) (others (len - 1))
next_frame others bytes (fault e) = record { frames = []; ending = Err e }
next_frame others bytes incomplete = record { frames = []; ending = Ok bytes }

-- the stream of the bytes, the first `skip` of which belong to the frame before
unfoldable pub stream_from : ℕ → List ℕ → Stream
stream_from skip [] = record { frames = []; ending = Ok [] }
stream_from zero (b ∷ bytes) = next_frame (λ skip. stream_from skip bytes) (b ∷ bytes) (front_of (b ∷ bytes))
stream_from (suc skip) (b ∷ bytes) = stream_from skip bytes

-- the stream of the bytes
abbrev pub stream_of : List ℕ → Stream
stream_of bytes = stream_from 0 bytes

-- a stream with this end after more bytes: its rest is read together with them, and nothing is read after a fault
abbrev pub ends_with : Stream → Result (List ℕ) FrameError → List ℕ → Stream
ends_with s (Ok rest) later = put_before s.frames (stream_of (rest ++ later))
ends_with s (Err e) later = s

-- a stream after more bytes
abbrev pub goes_on : Stream → List ℕ → Stream
goes_on s later = ends_with s s.ending later

-- a stream after more pieces, one after another
abbrev pub fed_in : Stream → List (List ℕ) → Stream
fed_in s [] = s
fed_in s (piece ∷ pieces) = fed_in (goes_on s piece) pieces

-- ---- the bytes that a feeder holds: the rest of a frame, or nothing after a fault
abbrev pub waiting_rest : Result (List ℕ) FrameError → Option (List ℕ)
waiting_rest (Ok rest) = Some rest
waiting_rest (Err e) = None

-- the fault with which a stream ends, if there is one
abbrev pub fault_in : Result (List ℕ) FrameError → Option FrameError
fault_in (Ok rest) = None
fault_in (Err e) = Some e

-- the rest, which is empty after a fault
abbrev pub rest_bytes : Option (List ℕ) → List ℕ
rest_bytes (Some rest) = rest
rest_bytes None = []
