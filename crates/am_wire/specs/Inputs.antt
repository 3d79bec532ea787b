-- The messages of an input, and the fault that ends it.
-- `reads` gives the result of reading a message that begins at an offset.
use Rattle.std.specs.Prelude.{◌≡◌, ◌≢◌, ℕ, ◌+◌, ◌-◌, ◌<◌, ◌≤◌, List, [], ◌∷◌, ◌++◌, length, take, drop}
use Rattle.std.specs.Prelude.{map, Option, Some, None, Result, Ok, Err, ⊤}
use Rattle.am_wire.specs.declared.error.WireError.{WireError}
use Rattle.am_wire.specs.declared.error.WireError.TheVariants as errors
use Rattle.am_wire.specs.declared.reader.RowFault.{RowFault}
use Rattle.am_wire.specs.declared.reader.RowFault.TheVariants.{Read, Wire, TooLarge, Ended, Memory}
use Rattle.am_wire.specs.Fields.{row_at, pieces, ◌>>=◌}
use Rattle.am_wire.specs.Limits.{most}
use Rattle.am_wire.specs.Reader.{IsCut}

-- a message that was read
abbrev pub sound : {A : Type 0} → A → Result A WireError
sound message = Ok message

module _ {A : Type 0} (reads : ℕ → List ℕ → Result A WireError) where
  -- the message in the row at the front, and the row's length; the bytes begin at the offset `at`
  abbrev pub message_at : ℕ → List ℕ → Result (A × ℕ) WireError
  message_at at bytes = do
    row ← row_at at bytes
    message ← reads (at + (row.1 - length row.0)) row.0
    Ok (message, row.1)

  -- the messages in bytes that begin at the offset `at`, in order, up to the first fault, which comes last
  abbrev pub messages_from : ℕ → List ℕ → List (Result A WireError)
  messages_from at bytes = pieces message_at 0 at bytes

  -- the messages of an input
  abbrev pub messages_of : List ℕ → List (Result A WireError)
  messages_of input = messages_from 0 input

  -- the input is a row of these messages without a fault
  abbrev pub AreMessages : List ℕ → List A → Type 0
  AreMessages input messages = messages_of input ≡ map sound messages

  -- the first fault of the input comes after these messages
  abbrev pub HasFaultAfter : List ℕ → List A → WireError → Type 0
  HasFaultAfter input messages e = messages_of input ≡ map sound messages ++ Err e ∷ []

  -- the bytes are a row of these messages, followed by the beginning of another one that is not whole
  pub record IsCutAfter (bytes : List ℕ) (messages : List A) : Type 0 where
    pub whole : List ℕ
    pub begun : List ℕ
    pub parts : bytes ≡ whole ++ begun
    pub before : AreMessages whole messages
    pub cut : IsCut (length whole) begun

  -- the input has more bytes than may be read, and those have no fault: they end in a message that is not whole yet
  pub record IsTooLargePast (limit : ℕ) (input : List ℕ) (messages : List A) : Type 0 where
    pub cut : IsCutAfter (take limit input) messages
    pub more : limit < length input

  -- The input was not read to its end, after these messages, for this fault, if `limit` bytes may be read. A fault of the bytes
  -- is one of the whole input and already of those that may be read, and not only that a too large input is cut there; or a
  -- read failed after `k` bytes without a fault; or the input is too large.
  abbrev pub StopsWithin : ℕ → List ℕ → List A → Option (List ℕ) → RowFault → Type 0
  StopsWithin limit input messages left (Wire e) =
      HasFaultAfter input messages e × HasFaultAfter (take limit input) messages e × ¬ IsTooLargePast limit input messages
  StopsWithin limit input messages left (Read k) =
      IsCutAfter (take k input) messages × (k ≤ limit) × (k ≤ length input) × (left ≡ Some (drop k input))
  StopsWithin limit input messages left TooLarge = IsTooLargePast limit input messages
  StopsWithin limit input messages left Memory = ⊤
  StopsWithin limit input messages left Ended = ⊥

  -- the input has more than 64 MiB, and those have no fault
  abbrev pub IsTooLargeAfter : List ℕ → List A → Type 0
  IsTooLargeAfter input messages = IsTooLargePast most input messages

  abbrev pub StopsAfter : List ℕ → List A → Option (List ℕ) → RowFault → Type 0
  StopsAfter input messages left fault = StopsWithin most input messages left fault

-- A call gives the first of the items to come, a message or the fault, which is the last; or nothing if there is none. Running
-- out of memory is no fault of the bytes, and nothing comes after it either.
abbrev pub GivesNext : {A : Type 0} → List (Result A WireError) → Option (Result A WireError) → List (Result A WireError) → Type 0
GivesNext coming None left = (coming ≡ []) × (left ≡ [])
GivesNext coming (Some (Ok message)) left = coming ≡ Ok message ∷ left
GivesNext coming (Some (Err e)) left = (0 < length coming) × (left ≡ []) × (e ≢ errors.Memory → coming ≡ Err e ∷ [])
