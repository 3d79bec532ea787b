-- The bytes that pass over a stream.
use Rattle.std.specs.Prelude.{◌≡◌, ◌==◌, ◌&&◌, ◌||◌, nat_lt, ℕ, Bool, true, List, [], ◌++◌, Result, Ok, Err, take, length}
use Rattle.am_reactor.specs.declared.noted_stream.NotedStream.{NotedStream}

-- the bytes that came over a stream so far, and whether a read has met the end behind them
pub record Arrival : Type 0 where
  pub bytes : List ℕ
  pub ended : Bool

-- the bytes that came, after a read into a piece: those that it brought, if it didn't fail; it met the end if it brought none
-- into a piece that has room
abbrev pub after_read : {E : Type 0} → Arrival → Result ℕ E → List ℕ → Arrival
after_read arrived (Ok count) piece =
    record { bytes = arrived.bytes ++ take count piece; ended = arrived.ended || (count == 0 && nat_lt 0 (length piece)) }
after_read arrived (Err error) piece = arrived

-- the bytes that went out, after a write: those that it took, if it didn't fail
abbrev pub after_write : {E : Type 0} → List ℕ → Result ℕ E → List ℕ → List ℕ
after_write gone (Ok count) bytes = gone ++ take count bytes
after_write gone (Err error) bytes = gone

-- nothing has come or gone over a stream yet
pub record IsSilent (arrived : Arrival) (gone : List ℕ) : Type 0 where
  pub unread : arrived.bytes ≡ []
  pub unwritten : gone ≡ []

-- just these bytes came since
abbrev pub Receives : Arrival → Arrival → List ℕ → Type 0
Receives old new bytes = new.bytes ≡ old.bytes ++ bytes

-- just these bytes went out since
abbrev pub Appends : List ℕ → List ℕ → List ℕ → Type 0
Appends old new bytes = new ≡ old ++ bytes

-- a read has met the end
abbrev pub HasEnded : Arrival → Type 0
HasEnded arrived = arrived.ended ≡ true

-- the bytes that came over a noted stream
abbrev pub arrived_over : NotedStream → Arrival
arrived_over stream = record { bytes = stream.came.bytes; ended = stream.ended }

-- the bytes that went out over a noted stream
abbrev pub gone_over : NotedStream → List ℕ
gone_over stream = stream.went.bytes
