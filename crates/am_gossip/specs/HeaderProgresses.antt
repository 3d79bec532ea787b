-- The progress in reading the frame at the front of a stream.
use Rattle.std.specs.Prelude.{◌≡◌, ℕ, ◌+◌, ◌≤◌, List, [], ◌∷◌, length, take, drop, ⊤, Result, Ok, Err}
use Rattle.am_gossip.specs.declared.error.FrameError.{FrameError}
use Rattle.am_gossip.specs.declared.header.HeaderProgress.{HeaderProgress}
use Rattle.am_gossip.specs.declared.header.HeaderProgress.TheVariants.{Before, InLength, InPayload}
use Rattle.am_gossip.specs.declared.reading.FrameRead.{FrameRead}
use Rattle.am_gossip.specs.declared.reading.FrameRead.TheVariants.{Frame, Waits, Fault}
use Rattle.am_gossip.specs.declared.reading.End.{End}
use Rattle.am_gossip.specs.declared.reading.End.TheVariants as ends
use Rattle.am_gossip.specs.declared.head.Head.{Head}
use Rattle.am_gossip.specs.Kinds.{code_of}
use Rattle.am_gossip.specs.Headers.{head, bad, header_of}
use Rattle.am_gossip.specs.Streams.{whole, fault, incomplete, front_of}
use Rattle.am_gossip.specs.Lengths.{IsGroups}

-- the progress after reading these bytes of a frame
abbrev pub IsAt : HeaderProgress → List ℕ → Type 0
IsAt Before bytes = bytes ≡ []
IsAt (InLength kind groups) bytes = (text : List ℕ) × (bytes ≡ code_of kind ∷ text) × IsGroups groups text
IsAt (InPayload h) bytes = header_of bytes ≡ head h.kind h.size h.len

-- the progress after reading these bytes, or the fault in their header
abbrev pub Stands : Result HeaderProgress FrameError → List ℕ → Type 0
Stands (Ok s) bytes = IsAt s bytes
Stands (Err e) bytes = header_of bytes ≡ bad e

-- the bytes are the beginning of a frame, with this progress
pub record IsWaiting (s : HeaderProgress) (bytes : List ℕ) : Type 0 where
  pub at : IsAt s bytes
  pub unfinished : front_of bytes ≡ incomplete

-- the result of reading the front of the bytes
abbrev pub IsRead : FrameRead → List ℕ → Type 0
IsRead (Frame frame len) bytes = front_of bytes ≡ whole frame len
IsRead (Waits s) bytes = IsWaiting s bytes
IsRead (Fault e) bytes = front_of bytes ≡ fault e

-- the payload is that of the frame at the front of the bytes, which has this header
pub record IsWhole (h : Head) (bytes payload : List ℕ) : Type 0 where
  pub header : header_of bytes ≡ head h.kind h.size h.len
  pub within : h.len + h.size ≤ length bytes
  pub payload_is : payload ≡ take h.size (drop h.len bytes)

-- a frame that isn't whole is held
abbrev pub Holds : FrameRead → List ℕ → List ℕ → Type 0
Holds (Waits s) bytes held = held ≡ bytes
Holds read bytes held = ⊤

-- a stream ends with this rest, or with this fault
abbrev pub EndsAs : End → List ℕ → Result (List ℕ) FrameError → Type 0
EndsAs (ends.Waits s) rest ending = (ending ≡ Ok rest) × IsWaiting s rest
EndsAs (ends.Fault e) rest ending = ending ≡ Err e
