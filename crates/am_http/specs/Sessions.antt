-- One connection, whose bytes come in pieces: its progress, and what each piece says.
use Rattle.std.specs.Prelude.{◌≡◌, ◌⊎◌, ℕ, ◌+◌, ◌-◌, ◌<◌, ◌≤◌, false, true, List, [], ◌∷◌, ◌++◌, length, take, drop, Option, Some, None, Result, Ok, Err}
use Rattle.std.specs.Option.{option_or}
use Rattle.am_gossip.specs.declared.error.FrameError.{FrameError}
use Rattle.am_gossip.specs.declared.error.FrameError.TheVariants as frame_errors
use Rattle.am_gossip.specs.declared.frame.Frame.{Frame}
use Rattle.am_gossip.specs.Hellos.{hello_of}
use Rattle.am_gossip.specs.Streams.{stream_of}
use Rattle.am_http.specs.declared.cause.Cause.TheVariants.{EndedEarly, Memory}
use Rattle.am_http.specs.declared.refusal.Refusal.{Refusal}
use Rattle.am_http.specs.declared.request.Read.{Read}
use Rattle.am_http.specs.declared.request.Read.TheVariants.{More, Refused}
use Rattle.am_http.specs.declared.hosts.Screened.{Screened}
use Rattle.am_http.specs.declared.hosts.Screened.TheVariants as screened
use Rattle.am_http.specs.Hosts.{IsScreened}
use Rattle.am_http.specs.Lines.{line_seen, line_of}
use Rattle.am_http.specs.Requests.{IsReadOf}
use Rattle.am_http.specs.declared.session.fault.SessionFault.{SessionFault}
use Rattle.am_http.specs.declared.session.fault.SessionFault.TheVariants.{TooLarge, Frame as InFrame}
use Rattle.am_http.specs.declared.session.output.SessionOutput.{SessionOutput}

-- The progress of a connection: before its first byte; in a request, with its bytes so far; in a greeting, with its bytes so far;
-- in the frames behind a greeting, with the name in the greeting, the number of bytes that came in all, and the last of them,
-- which begin a frame; or over, with the name in the greeting, if one came.
pub data SessionPhase : Type 0 where
  fresh : SessionPhase
  InRequest : List ℕ → SessionPhase
  InGreeting : List ℕ → SessionPhase
  InFrames : List ℕ → ℕ → List ℕ → SessionPhase
  over : Option (List ℕ) → SessionPhase

-- the name in the greeting, if one came
abbrev pub name_of : SessionPhase → Option (List ℕ)
name_of fresh = None
name_of (InRequest bytes) = None
name_of (InGreeting bytes) = None
name_of (InFrames name count rest) = Some name
name_of (over name) = name

-- the bytes that wait for the rest of their request, greeting or frame
abbrev pub waiting_in : SessionPhase → List ℕ
waiting_in (InRequest bytes) = bytes
waiting_in (InGreeting bytes) = bytes
waiting_in (InFrames name count rest) = rest
waiting_in _ = []

-- the output: frames in order, what was read of a request, and why nothing more is heard
pub record Spoken : Type 0 where
  pub frames : List Frame
  pub request : Option Read
  pub fault : Option SessionFault

-- the output that the code returns
abbrev pub spoken : SessionOutput → Spoken
spoken said = record { frames = said.frames.items; request = said.request; fault = said.fault }

-- frames, and why there are no more, if there is a fault
abbrev pub heard : List Frame → Option SessionFault → Spoken
heard frames fault = record { frames = frames; request = None; fault = fault }

-- the output that says nothing
abbrev pub nothing : Spoken
nothing = heard [] None

-- the output that a request was read, or refused
abbrev pub asked : Read → Spoken
asked read = record { frames = []; request = Some read; fault = None }

-- the output of two pieces, one after the other
abbrev pub and_then : Spoken → Spoken → Spoken
and_then first second = record {
  frames = first.frames ++ second.frames;
  request = option_or first.request second.request;
  fault = option_or first.fault second.fault;
}

-- the maximum number of bytes in a connection of frames
abbrev pub most_bytes : ℕ
most_bytes = 134217728

-- ---- a request

-- the bytes that came decide nothing yet; or they are a request, which is told, and nothing more is heard
abbrev pub IsAsked : List ℕ → Read → Spoken → SessionPhase → Type 0
IsAsked bytes More said new = (said ≡ nothing) × (new ≡ InRequest bytes)
IsAsked bytes read said new = (said ≡ asked read) × (new ≡ over None)

-- the output for all the bytes of a request so far
abbrev pub Asks : List ℕ → Spoken → SessionPhase → Type 0
Asks bytes said new = (read : Read) × IsReadOf bytes false read × IsAsked bytes read said new

-- ---- frames

-- The output for the frames in the bytes that were taken, given the bytes beyond the limit: the stream goes on, or it ends at a
-- byte too many or at its fault. `count` is the number of bytes that came in all.
abbrev pub IsHeard : List ℕ → ℕ → List Frame → Result (List ℕ) FrameError → List ℕ → Spoken → SessionPhase → Type 0
IsHeard name count frames (Ok rest) [] said new = (said ≡ heard frames None) × (new ≡ InFrames name count rest)
IsHeard name count frames (Ok rest) (_ ∷ _) said new = (said ≡ heard frames (Some TooLarge)) × (new ≡ over (Some name))
IsHeard name count frames (Err e) lost said new = (said ≡ heard frames (Some (InFrame e))) × (new ≡ over (Some name))

-- The output for a piece of a stream if `rest` begins a frame and `count` bytes of the connection came before: as much of the
-- piece is taken as a connection may have.
abbrev pub Hears : List ℕ → ℕ → List ℕ → List ℕ → Spoken → SessionPhase → Type 0
Hears name count rest piece said new =
    let took : List ℕ = take (most_bytes - count) piece in
    IsHeard name (count + length took) (stream_of (rest ++ took)).frames (stream_of (rest ++ took)).ending (drop (most_bytes - count) piece) said new

-- ---- a greeting

-- the greeting isn't whole; or it is, and the bytes behind it are a piece of its stream; or it is at fault
abbrev pub IsGreeted : List ℕ → Result (Option (List ℕ × ℕ)) FrameError → Spoken → SessionPhase → Type 0
IsGreeted bytes (Ok None) said new = (said ≡ nothing) × (new ≡ InGreeting bytes)
IsGreeted bytes (Ok (Some greeting)) said new = Hears greeting.0 greeting.1 [] (drop greeting.1 bytes) said new
IsGreeted bytes (Err e) said new = (said ≡ heard [] (Some (InFrame e))) × (new ≡ over None)

-- the output for all the bytes of a connection of frames so far
abbrev pub Greets : List ℕ → Spoken → SessionPhase → Type 0
Greets bytes said new = IsGreeted bytes (hello_of bytes) said new

-- ---- a connection

-- the first byte of a greeting is below 0x20, and that of a request isn't
pub record Begins (first : ℕ) (bytes : List ℕ) (said : Spoken) (new : SessionPhase) : Type 0 where
  pub peer : first < 32 → Greets bytes said new
  pub request : 32 ≤ first → Asks bytes said new

-- The output for a piece if there is memory for it, and the progress of the connection then.
abbrev pub Says : SessionPhase → List ℕ → Spoken → SessionPhase → Type 0
Says fresh [] said new = (said ≡ nothing) × (new ≡ fresh)
Says fresh (first ∷ bytes) said new = Begins first (first ∷ bytes) said new
Says (InRequest bytes) piece said new = Asks (bytes ++ piece) said new
Says (InGreeting bytes) piece said new = Greets (bytes ++ piece) said new
Says (InFrames name count rest) piece said new = Hears name count rest piece said new
Says (over name) piece said new = (said ≡ nothing) × (new ≡ over name)

-- the output for pieces that come one after the other
abbrev pub SaysAll : SessionPhase → List (List ℕ) → Spoken → SessionPhase → Type 0
SaysAll old [] said new = (said ≡ nothing) × (new ≡ old)
SaysAll old (piece ∷ pieces) said new =
    (first : Spoken) × (mid : SessionPhase) × (others : Spoken) × Says old piece first mid × SaysAll mid pieces others new
    × (said ≡ and_then first others)

-- ---- want of memory

-- nothing more is heard
abbrev pub IsOver : SessionPhase → Type 0
IsOver s = (name : Option (List ℕ)) × (s ≡ over name)

-- the output has no frame of the piece, and says that memory ran out
abbrev pub IsUnheard : Spoken → Type 0
IsUnheard said = said ≡ heard [] (Some (InFrame frame_errors.Memory))

-- the request is refused because memory ran out
abbrev pub IsTurnedAway : Spoken → Type 0
IsTurnedAway said = (refusal : Refusal) × (said ≡ asked (Refused refusal)) × (line_seen refusal ≡ line_of Memory)

-- there was no memory for the bytes of a request
abbrev pub LacksToAsk : Spoken → SessionPhase → Type 0
LacksToAsk said new = IsTurnedAway said × (new ≡ over None)

-- there was no memory for a greeting, or for the frames behind it
abbrev pub LacksToGreet : Spoken → SessionPhase → Type 0
LacksToGreet said new = IsUnheard said × IsOver new

-- there was no memory for what a connection begins with, by its first byte
pub record LacksToBegin (first : ℕ) (said : Spoken) (new : SessionPhase) : Type 0 where
  pub peer : first < 32 → LacksToGreet said new
  pub request : 32 ≤ first → LacksToAsk said new

-- there was no memory for what a piece says: the output says so, and nothing more is heard
abbrev pub LacksMemory : SessionPhase → List ℕ → Spoken → SessionPhase → Type 0
LacksMemory fresh [] said new = ⊥
LacksMemory fresh (first ∷ bytes) said new = LacksToBegin first said new
LacksMemory (InRequest bytes) piece said new = LacksToAsk said new
LacksMemory (InGreeting bytes) piece said new = LacksToGreet said new
LacksMemory (InFrames name count rest) piece said new = IsUnheard said × (new ≡ over (Some name))
LacksMemory (over name) piece said new = ⊥

-- the output for a piece: what the piece says, or that there was no memory for it
abbrev pub Feeds : SessionPhase → List ℕ → Spoken → SessionPhase → Type 0
Feeds old piece said new = Says old piece said new ⊎ LacksMemory old piece said new

-- ---- the end of the input

-- the request that the bytes begin is refused because its input ended in it
pub record IsCutShort (bytes : List ℕ) (said : Spoken) : Type 0 where
  pub refusal : Refusal
  pub is : said ≡ asked (Refused refusal)
  pub line : line_seen refusal ≡ line_of EndedEarly
  pub read : IsReadOf bytes true (Refused refusal)

-- the output for the end of the input: that a request is cut short, if it isn't whole; nothing otherwise
abbrev pub SaysEnd : SessionPhase → Spoken → Type 0
SaysEnd (InRequest bytes) said = IsCutShort bytes said
SaysEnd _ said = said ≡ nothing

-- ---- where it comes from

-- the screening of a connection with the next piece, by the head of the request that its bytes begin
abbrev pub Screens : SessionPhase → List ℕ → List (List ℕ) → Screened → Type 0
Screens fresh piece names result = IsScreened names piece result
Screens (InRequest bytes) piece names result = IsScreened names (bytes ++ piece) result
Screens _ piece names result = result ≡ screened.Known
