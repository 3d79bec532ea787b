-- A request from a reader, and its answer to a writer.
use Rattle.std.specs.Prelude.{◌≡◌, ℕ, ◌≤◌, ◌⊎◌, Bool, List, [], ◌++◌, length, Option, Some, None, Result, Ok, Err, IsTrue}
use Rattle.std.specs.Io.KnownBytes.{Appends, Consumes, IsAtEnd}
use Rattle.am_wire.specs.OutputWriting.{WritesPart}
use Rattle.am_http.specs.Lines.{line_seen, line_of}
use Rattle.am_http.specs.Requests.{IsReadOf, IsUnfinished}
use Rattle.am_http.specs.declared.cause.Cause.TheVariants.{Memory}
use Rattle.am_http.specs.declared.request.Read.{Read}
use Rattle.am_http.specs.declared.request.Read.TheVariants.{More, Whole, Refused}
use Rattle.am_instance.specs.Sendings.{Sent, nothing_sent}
use Rattle.am_instance.specs.InstanceStates.{InstanceState}
use Rattle.am_api_silences.specs.Answers.{Answered, IsRefusalAnswer, IsRequestAnswer}
use Rattle.am_api_silences.specs.Replies.{HasStatus, bytes_of}
use Rattle.am_api_silences.specs.declared.serving.ServeFault.{ServeFault}
use Rattle.am_api_silences.specs.declared.serving.ServeFault.TheVariants as faults
use Rattle.am_api_silences.specs.declared.serving.Served.{Served}

-- ---- reading

-- Nothing came; or the last of what came is one piece, of at most 4,096 bytes, behind others that decide nothing.
abbrev pub IsJustRead : List ℕ → Type 0
IsJustRead came =
    (came ≡ []) ⊎ ((before : List ℕ) × (piece : List ℕ) × (came ≡ before ++ piece) × (length piece ≤ 4096) × IsUnfinished before)

-- there was no memory for the bytes that came
abbrev pub LacksMemory : Read → Type 0
LacksMemory (Refused refusal) = line_seen refusal ≡ line_of Memory
LacksMemory _ = ⊥

-- the reader gave these bytes; they are decided, or its input ended in them, or there was no memory for them
pub record HasReceived (input left : Option (List ℕ)) (read : Read) : Type 0 where
  pub came : List ℕ
  pub consumed : Consumes input left came
  -- nothing more is read once the bytes are decided
  pub just : IsJustRead came
  pub ended : Bool
  pub at_end : IsTrue ended → IsAtEnd left
  pub answer : IsReadOf came ended read ⊎ LacksMemory read

-- the reader failed after it had given this many bytes, which decide nothing
pub record StopsReading (input left : Option (List ℕ)) (at : ℕ) : Type 0 where
  pub came : List ℕ
  pub consumed : Consumes input left came
  pub count : at ≡ length came
  pub undecided : IsUnfinished came

-- The reader gave this first request, or the reason why it is refused; nothing is decided if its input ended before its first byte.
-- Or a read failed.
abbrev pub IsReadBy : Option (List ℕ) → Option (List ℕ) → Result Read ServeFault → Type 0
IsReadBy input left (Ok More) = Consumes input left [] × IsAtEnd left
IsReadBy input left (Ok read) = HasReceived input left read
IsReadBy input left (Err (faults.Read at)) = StopsReading input left at
IsReadBy input left (Err (faults.Write written)) = ⊥

-- ---- answering

-- the input that was read is answered: a request by what it means, anything else by the reason why it is refused
abbrev pub IsAnswerTo : Read → InstanceState → ℕ → ℕ → Answered → InstanceState → Type 0
IsAnswerTo (Whole request) old bits now answered new = IsRequestAnswer old request bits now answered new
IsAnswerTo (Refused refusal) old bits now answered new = IsRefusalAnswer refusal old answered new
IsAnswerTo More old bits now answered new = ⊥

-- all the bytes went out, or exactly this many of the first ones if a write failed
abbrev pub GoesOut : Option (List ℕ) → Option (List ℕ) → List ℕ → Option ServeFault → Type 0
GoesOut before after bytes None = Appends before after bytes
GoesOut before after bytes (Some (faults.Write written)) = WritesPart before after bytes written
GoesOut before after bytes (Some (faults.Read at)) = ⊥

-- the frames that are sent with an outcome
abbrev pub sent_with : Served → Sent
sent_with served = record { frames = served.frames.items; memory = served.unsent.memory; limit = served.unsent.limit }

-- an answer is handed on
pub record IsHandedOn (before after : Option (List ℕ)) (answered : Answered) (served : Served) : Type 0 where
  -- its reply goes to the writer
  pub written : GoesOut before after (bytes_of answered.reply) served.fault
  -- the status is the one in its head
  pub status : ℕ
  pub has_status : HasStatus status (bytes_of answered.reply)
  pub told : served.status ≡ Some status
  -- its frames are handed on
  pub sent : sent_with served ≡ answered.sent

-- no reply is made: the instance and the writer are as they were, and nothing is sent
pub record IsSilent (fault : Option ServeFault) (old new : InstanceState) (before after : Option (List ℕ)) (served : Served) : Type 0 where
  pub same : new ≡ old
  pub untouched : after ≡ before
  pub no_status : served.status ≡ None
  pub sent : sent_with served ≡ nothing_sent
  pub told : served.fault ≡ fault

-- The outcome of what was read: nothing if the input ended before its first byte, or a read failed; else the answer.
abbrev pub IsServed : Result Read ServeFault → ℕ → ℕ → InstanceState → InstanceState → Option (List ℕ) → Option (List ℕ) → Served → Type 0
IsServed (Err fault) bits now old new before after served = IsSilent (Some fault) old new before after served
IsServed (Ok More) bits now old new before after served = IsSilent None old new before after served
IsServed (Ok read) bits now old new before after served =
    (answered : Answered) × IsAnswerTo read old bits now answered new × IsHandedOn before after answered served

-- the outcome of an input: what its reader gave is answered
abbrev pub Serves : ℕ → ℕ → Option (List ℕ) → Option (List ℕ) → InstanceState → InstanceState → Option (List ℕ) → Option (List ℕ) → Served → Type 0
Serves bits now input left old new before after served =
    (read : Result Read ServeFault) × IsReadBy input left read × IsServed read bits now old new before after served
