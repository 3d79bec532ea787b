-- Reads, and the calls that tell of them.
use Rattle.std.specs.Prelude.{◌≡◌, ◌<◌, ◌≤◌, ℕ, true, false, List, [], ◌∷◌, ◌++◌, length, take}
use Rattle.am_reactor.specs.declared.connection.Connection.{Connection}
use Rattle.am_reactor.specs.declared.reading.ReadResult.{ReadResult}
use Rattle.am_reactor.specs.declared.reading.ReadResult.TheVariants.{Bytes, End, Nothing, Interrupted, Failed}
use Rattle.am_reactor.specs.Deeds.{Deed, Did, ending, feeds, joined}
use Rattle.am_reactor.specs.Deeds.Deed.{Fed, Ended}
use Rattle.am_reactor.specs.Sending.{counted}
use Rattle.am_reactor.specs.Streams.{Arrival, HasEnded, Receives}

-- the number of bytes that a read brought
abbrev pub brought_by : ReadResult → ℕ
brought_by (Bytes count) = count
brought_by End = 0
brought_by Nothing = 0
brought_by Interrupted = 0
brought_by (Failed kind) = 0

-- if a read brought bytes, there is at least one, and they fit in the piece
abbrev pub FitsPiece : List ℕ → ReadResult → Type 0
FitsPiece piece (Bytes count) = (0 < count) × (count ≤ length piece)
FitsPiece piece End = Unit {0}
FitsPiece piece Nothing = Unit {0}
FitsPiece piece Interrupted = Unit {0}
FitsPiece piece (Failed kind) = Unit {0}

-- the end is met only if no more comes, provided that the piece has room
abbrev pub EndsWith : Arrival → List ℕ → ReadResult → Type 0
EndsWith arrived piece brought = brought ≡ End → 0 < length piece → HasEnded arrived

-- the calls that tell of a read: just of the bytes that came, or of the end
abbrev pub told_of : List ℕ → ReadResult → List Deed
told_of piece (Bytes count) = Fed (take count piece) ∷ []
told_of piece End = Ended ∷ []
told_of piece Nothing = []
told_of piece Interrupted = []
told_of piece (Failed kind) = []

-- A connection is read: just the bytes that came are fed to its own session, in pieces one after the other, each once; then the end
-- is told if it is met. Nothing goes out, and the connection is the same otherwise. Each piece has the given room.
pub record Hears {S T C : Type 0} (does : S → T → Deed → S → T → Type 0) (arrived : C → Arrival) (gone : C → List ℕ) (room : ℕ)
    (service : S) (connection : Connection T C) (service' : S) (connection' : Connection T C) : Type 0 where
  pub pieces : List (List ℕ)
  pub did : Did does service connection.session (feeds pieces ++ ending connection.ended connection'.ended) service' connection'.session
  pub came : Receives (arrived connection.stream) (arrived connection'.stream) (joined pieces)
  pub read : connection'.read ≡ counted connection.read (length (joined pieces))
  pub ended : connection.ended ≡ true → (pieces ≡ []) × (connection'.ended ≡ true)
  pub at_end : 0 < room → connection.ended ≡ false → connection'.ended ≡ true → HasEnded (arrived connection'.stream)
  pub unwritten : gone connection'.stream ≡ gone connection.stream
  pub written : connection'.written ≡ connection.written
  pub phase : connection'.phase ≡ connection.phase
