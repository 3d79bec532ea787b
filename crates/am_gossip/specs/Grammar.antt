-- The texts that are a stream of frames: relations on whole texts, while the code reads piece by piece.
use Rattle.std.specs.Prelude.{◌≡◌, ◌≢◌, ℕ, ◌<◌, ◌≤◌, ◌⊎◌, List, [], ◌∷◌, ◌++◌, length, take, slice_index, All, Result, Ok, Err}
use Rattle.am_wire.specs.Varint.{IsVarint}
use Rattle.am_gossip.specs.declared.error.FrameError.{FrameError}
use Rattle.am_gossip.specs.declared.error.FrameError.TheVariants.{Kind, Length, Wire, UnknownState, Ended, Memory}
use Rattle.am_gossip.specs.declared.frame.Frame.{Frame}
use Rattle.am_gossip.specs.declared.kind.FrameKind.{FrameKind}
use Rattle.am_gossip.specs.Kinds.{code_of, limit}
use Rattle.am_gossip.specs.Frames.{kind_of, reads_payload}
use Rattle.am_gossip.specs.Streams.{Stream}

-- The text is the frame's: the byte of its kind, a spelling of the length of its payload, which is within the kind's limit,
-- and a payload that is read as the frame.
pub record IsFrame (f : Frame) (text : List ℕ) : Type 0 where
  pub size : List ℕ
  pub payload : List ℕ
  pub text_is : text ≡ code_of (kind_of f) ∷ (size ++ payload)
  pub size_is : IsVarint size (length payload)
  pub small : length payload ≤ limit (kind_of f)
  pub reads : reads_payload (kind_of f) payload ≡ Ok f

-- the bytes are the texts of these frames, one after another
abbrev pub AreFrames : List Frame → List ℕ → Type 0
AreFrames [] bytes = bytes ≡ []
AreFrames (f ∷ fs) bytes = (text : List ℕ) × (others : List ℕ) × (bytes ≡ text ++ others) × IsFrame f text × AreFrames fs others

-- ---- a fault at the front of bytes
-- the first byte names no kind
pub record HasNoKind (bytes : List ℕ) : Type 0 where
  pub code : ℕ
  pub rest : List ℕ
  pub bytes_are : bytes ≡ code ∷ rest
  pub no_kind : (kind : FrameKind) → code ≢ code_of kind

-- the bytes begin with a spelling of a number over the limit
pub record HasLargeNumber (most : ℕ) (bytes : List ℕ) : Type 0 where
  pub number : ℕ
  pub size : List ℕ
  pub rest : List ℕ
  pub bytes_are : bytes ≡ size ++ rest
  pub size_is : IsVarint size number
  pub large : most < number

-- the bytes begin with ten that spell no number, since the tenth holds more than one bit
pub record HasLongNumber (bytes : List ℕ) : Type 0 where
  pub enough : 9 < length bytes
  pub go_on : All (λ b. 128 ≤ b) (take 9 bytes)
  pub much : 2 ≤ slice_index bytes 9

-- behind the byte of its kind, the length is over the kind's limit, or is no number
pub record HasBadLength (bytes : List ℕ) : Type 0 where
  pub kind : FrameKind
  pub rest : List ℕ
  pub bytes_are : bytes ≡ code_of kind ∷ rest
  pub bad : HasLargeNumber (limit kind) rest ⊎ HasLongNumber rest

-- the payload is whole, and reading it finds this fault
pub record HasBadPayload (e : FrameError) (bytes : List ℕ) : Type 0 where
  pub kind : FrameKind
  pub size : List ℕ
  pub payload : List ℕ
  pub rest : List ℕ
  pub bytes_are : bytes ≡ code_of kind ∷ (size ++ (payload ++ rest))
  pub size_is : IsVarint size (length payload)
  pub small : length payload ≤ limit kind
  pub reads : reads_payload kind payload ≡ Err e

-- the fault is at the front of the bytes
abbrev pub IsFaultAt : FrameError → List ℕ → Type 0
IsFaultAt Kind bytes = HasNoKind bytes
IsFaultAt Length bytes = HasBadLength bytes
IsFaultAt (Wire e) bytes = HasBadPayload (Wire e) bytes
IsFaultAt UnknownState bytes = HasBadPayload UnknownState bytes
IsFaultAt Ended bytes = ⊥
IsFaultAt Memory bytes = ⊥

-- ---- streams
-- there is neither a whole frame nor a fault at the front of the bytes
pub record IsUnfinished (bytes : List ℕ) : Type 0 where
  pub no_frame : (f : Frame) (text later : List ℕ) → IsFrame f text → bytes ≢ text ++ later
  pub no_fault : (e : FrameError) → IsFaultAt e bytes → ⊥

-- the bytes behind the frames are an unfinished rest, or have a fault at their front
abbrev pub EndsIn : Result (List ℕ) FrameError → List ℕ → Type 0
EndsIn (Ok rest) bytes = (bytes ≡ rest) × IsUnfinished bytes
EndsIn (Err e) bytes = IsFaultAt e bytes

-- the bytes are these frames, followed by the rest or the fault
pub record IsStream (s : Stream) (bytes : List ℕ) : Type 0 where
  pub front : List ℕ
  pub behind : List ℕ
  pub bytes_are : bytes ≡ front ++ behind
  pub frames_are : AreFrames s.frames front
  pub ends : EndsIn s.ending behind
