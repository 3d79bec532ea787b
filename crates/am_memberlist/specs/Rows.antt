-- The rows of states. A full state has parts in its repeated field 1, and a state's row is the data of the part with its key.
use Rattle.std.specs.Prelude.{◌≡◌, ℕ, List, [], ◌∷◌, ◌++◌, bytes_eq, ◌==◌, if◌then◌else◌, Option, Some, None, Result, Ok, Err}
use Rattle.am_gossip.specs.Keys.{key_text}
use Rattle.am_gossip.specs.Parts.{part_table, parts_fit}
use Rattle.am_gossip.specs.declared.frame.StateKey.{StateKey}
use Rattle.am_wire.specs.declared.error.WireError.{WireError}
use Rattle.am_wire.specs.Fields.{FieldAt, delimited_at, fields_of}
use Rattle.am_wire.specs.Reading.{faults_in, fields_in, last_text}
use Rattle.am_memberlist.specs.declared.error.AnswerError.{AnswerError}
use Rattle.am_memberlist.specs.declared.error.AnswerError.TheVariants.{Wire, Twice}
use Rattle.am_wire.specs.Writing.{writes_delimited, writes_text}
use Rattle.am_memberlist.specs.declared.rows.PartDraft.{PartDraft}
use Rattle.am_memberlist.specs.Answers.{◌>>=◌}

-- the data of a part with these fields, if its key is that of the state
abbrev pub row_of : StateKey → List FieldAt → Option (List ℕ)
row_of key fields = if bytes_eq (last_text 1 fields) (key_text key) then Some (last_text 2 fields) else None

-- a fault, or else the value read
abbrev pub unless : {A : Type 0} → Option WireError → A → Result A AnswerError
unless (Some e) value = Err (Wire e)
unless None value = Ok value

-- the row in a part, which begins at an offset, if the part belongs to the state
unfoldable pub part_row : StateKey → ℕ → List ℕ → Result (Option (List ℕ)) AnswerError
part_row key at bytes = unless (faults_in part_table at bytes) (row_of key (fields_in part_table at bytes))

-- the only row of two that may each be missing; having both is a fault
abbrev pub one_of : Option (List ℕ) → Option (List ℕ) → Result (Option (List ℕ)) AnswerError
one_of None row = Ok row
one_of (Some found) None = Ok (Some found)
one_of (Some found) (Some row) = Err Twice

-- the row found before, or else that of the part in a field
abbrev pub with_part : StateKey → Option (List ℕ) → FieldAt → Result (Option (List ℕ)) AnswerError
with_part key found e =
    if e.number == 1
    then (elim e.payload [ delimited_at at bytes ↦ part_row key at bytes >>= one_of found | _ ↦ Ok found ])
    else Ok found

-- the row found before, or else that of a part in these fields; a second row is a fault
abbrev pub row_of_fields : StateKey → Option (List ℕ) → List (Result FieldAt WireError) → Result (Option (List ℕ)) AnswerError
row_of_fields key found [] = Ok found
row_of_fields key found (Ok e ∷ fields) = with_part key found e >>= λ row. row_of_fields key row fields
row_of_fields key found (Err e ∷ fields) = Err (Wire e)

-- the row of a state in a full state
unfoldable pub row_in : StateKey → List ℕ → Result (Option (List ℕ)) AnswerError
row_in key states = row_of_fields key None (fields_of parts_fit 0 states)

-- ---- how a part is read
-- the last field counts for the key, and the last one for the row
pub record IsPartDraft (fields : List FieldAt) (draft : PartDraft) : Type 0 where
  pub key : draft.key.text.now ≡ last_text 1 fields
  pub row : draft.row.bytes.now ≡ last_text 2 fields

-- nothing is made of the fields: the draft holds what is read
abbrev pub nothing_of : List FieldAt → Unit {0}
nothing_of fields = tt

-- ---- the only text that is written for a state: its part
unfoldable pub part_encoding : StateKey → List ℕ → List ℕ
part_encoding key row = writes_text 1 (key_text key) ++ writes_text 2 row

-- a full state with this part alone
unfoldable pub states_encoding : StateKey → List ℕ → List ℕ
states_encoding key row = writes_delimited 1 (part_encoding key row)
