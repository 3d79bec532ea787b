-- A part has key text = 1 and data bytes = 2; a full state has parts repeated = 1.
use Rattle.std.specs.Prelude.{ℕ, Bool, true, List, [], ◌∷◌, ◌++◌, Option, Some, None, Result, Ok, Err, ◌==◌, if◌then◌else◌}
use Rattle.std.specs.Option.{option_map}
use Rattle.am_wire.specs.declared.error.WireError.{WireError}
use Rattle.am_wire.specs.declared.value.WireType.{WireType}
use Rattle.am_wire.specs.Fields.{FieldAt, delimited_at, fields_of}
use Rattle.am_wire.specs.Reading.{Table, table_of, text_row, blob_row, last_text, read_by, is_bytes}
use Rattle.am_wire.specs.Writing.{writes_text, writes_messages}
use Rattle.am_gossip.specs.declared.error.FrameError.{FrameError}
use Rattle.am_gossip.specs.declared.error.FrameError.TheVariants.{Wire, UnknownState}
use Rattle.am_gossip.specs.declared.frame.Part.{Part}
use Rattle.am_gossip.specs.Answers.{◌>>=◌}
use Rattle.am_gossip.specs.Keys.{key_of, key_text}

-- ---- a part
abbrev pub part_table : Table
part_table = table_of (text_row 1 ∷ blob_row 2 ∷ [])

-- the part that these fields make, if its key names a state
abbrev pub part_value : List FieldAt → Option Part
part_value es = option_map (λ key. record { key = key; bytes = last_text 2 es }) (key_of (last_text 1 es))

-- the fault that a part's tests find, which is none that a wire error could express
abbrev pub part_tests : ℕ → List FieldAt → Option WireError
part_tests place es = None

-- the part, or the fault of a key that names no state, which is found at the part's end
abbrev pub known : Result (Option Part) WireError → Result Part FrameError
known (Ok (Some p)) = Ok p
known (Ok None) = Err UnknownState
known (Err e) = Err (Wire e)

-- the part that the bytes spell, or their first fault; they begin at the offset `at`
unfoldable pub reads_part : ℕ → List ℕ → Result Part FrameError
reads_part at bytes = known (read_by part_table part_tests part_value at at bytes)

-- the canonical encoding of a part
unfoldable pub writes_part : Part → List ℕ
writes_part p = writes_text 1 (key_text p.key) ++ writes_text 2 p.bytes

-- ---- a full state
-- the wire types of a full state's fields: the number 1 is a part, which is bytes, and other numbers are skipped
abbrev pub parts_fit : ℕ → WireType → Bool
parts_fit number kind = if number == 1 then is_bytes kind else true

-- the part in a field, if there is one
unfoldable pub parts_in : FieldAt → Result (List Part) FrameError
parts_in e =
    if e.number == 1
    then (elim e.payload [ delimited_at at bytes ↦ reads_part at bytes >>= (λ p. Ok (p ∷ [])) | _ ↦ Ok [] ])
    else Ok []

-- the parts in a list of fields, or the first fault
unfoldable pub parts_of : List (Result FieldAt WireError) → Result (List Part) FrameError
parts_of [] = Ok []
parts_of (Ok e ∷ items) = parts_in e >>= λ parts. parts_of items >>= λ others. Ok (parts ++ others)
parts_of (Err e ∷ items) = Err (Wire e)

-- the parts that the bytes spell, or their first fault
unfoldable pub reads_parts : List ℕ → Result (List Part) FrameError
reads_parts bytes = parts_of (fields_of parts_fit 0 bytes)

-- the canonical encoding of a full state
unfoldable pub writes_parts : List Part → List ℕ
writes_parts parts = writes_messages writes_part 1 parts
