-- A receiver: group_name text = 1, integration text = 2, idx uint32 = 3.
use Rattle.std.specs.Prelude.{ℕ, ◌<◌, ◌^◌, List, [], ◌∷◌, ◌++◌, Option, None, Result}
use Rattle.std.specs.Str.{IsUtf8}
use Rattle.am_wire.specs.declared.error.WireError.{WireError}
use Rattle.am_wire.specs.Fields.{FieldAt}
use Rattle.am_wire.specs.Reading.{Table, table_of, varint_row, text_row, last_number, last_text, read_by}
use Rattle.am_wire.specs.Timestamps.{low_half}
use Rattle.am_wire.specs.Writing.{writes_number, writes_text}
use Rattle.am_nflog.specs.declared.receiver.Receiver.{Receiver}

-- the wire types of a receiver's fields, and the faults inside them
abbrev pub receiver : Table
receiver = table_of (text_row 1 ∷ text_row 2 ∷ varint_row 3 ∷ [])

-- the receiver that these fields make
abbrev pub receiver_value : List FieldAt → Receiver
receiver_value es = record { group_name = last_text 1 es; integration = last_text 2 es; idx = low_half (last_number 3 es) }

-- the fault that a receiver's tests find, which is none: every list of sound fields is a receiver
abbrev pub receiver_tests : ℕ → List FieldAt → Option WireError
receiver_tests place es = None

-- the receiver that bytes spell, or their first fault
unfoldable pub reads_receiver : ℕ → List ℕ → Result Receiver WireError
reads_receiver at bytes = read_by receiver receiver_tests receiver_value at at bytes

-- the canonical encoding of a receiver
unfoldable pub writes_receiver : Receiver → List ℕ
writes_receiver r = writes_text 1 r.group_name ++ writes_text 2 r.integration ++ writes_number 3 r.idx

-- the receiver is a value of its type
pub record IsReceiver (r : Receiver) : Type 0 where
  pub group_name : IsUtf8 r.group_name
  pub integration : IsUtf8 r.integration
  pub idx : r.idx < 2 ^ 32
