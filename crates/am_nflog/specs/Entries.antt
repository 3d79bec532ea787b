-- An entry: group_key bytes = 1, receiver = 2, group_hash bytes = 3, resolved bool = 4, timestamp = 5,
-- firing_alerts repeated uint64 = 6, resolved_alerts repeated uint64 = 7.
use Rattle.std.specs.Prelude.{ℕ, ◌<◌, ◌≤◌, ◌^◌, List, [], ◌∷◌, ◌++◌, Option, Some, Result, All, not, ◌==◌, if◌then◌else◌}
use Rattle.am_version_order.specs.Moments.{greatest}
use Rattle.am_wire.specs.declared.error.WireError.{WireError}
use Rattle.am_wire.specs.declared.error.WireError.TheVariants as errors
use Rattle.am_wire.specs.Fields.{FieldAt}
use Rattle.am_wire.specs.Reading.{Table, table_of, varint_row, blob_row, part_row, numbers_row}
use Rattle.am_wire.specs.Reading.{last_number, last_text, all_numbers, merged, is_given, read_by}
use Rattle.am_wire.specs.Timestamps.{timestamp, moment_of, moment_test, writes_moment}
use Rattle.am_wire.specs.Writing.{writes_number, writes_text, writes_delimited, writes_numbers}
use Rattle.am_nflog.specs.declared.entry.Entry.{Entry}
use Rattle.am_nflog.specs.LogKeys.{LogKey}
use Rattle.am_nflog.specs.Receivers.{receiver, receiver_value, writes_receiver, IsReceiver}

-- the wire types of an entry's fields, and the faults inside them
abbrev pub entry : Table
entry = table_of (blob_row 1 ∷ part_row 2 receiver ∷ blob_row 3 ∷ varint_row 4 ∷ part_row 5 timestamp ∷ numbers_row 6 ∷ numbers_row 7 ∷ [])

-- the key of the entry that these fields make
abbrev pub key_value : List FieldAt → LogKey
key_value es = record { group_key = last_text 1 es; receiver = receiver_value (merged receiver 2 es) }

-- the entry that these fields make
abbrev pub entry_value : List FieldAt → Entry
entry_value es = record {
  key = key_value es;
  group_hash = last_text 3 es;
  resolved = not (last_number 4 es == 0);
  timestamp = moment_of 5 es;
  firing_alerts = all_numbers 6 es;
  resolved_alerts = all_numbers 7 es;
}

-- the fault that an entry's tests find: a missing receiver comes before an invalid timestamp
abbrev pub entry_tests : ℕ → List FieldAt → Option WireError
entry_tests place es = if is_given 2 es then moment_test 5 es else Some (errors.MissingMessage 2)

-- the entry that bytes spell, or their first fault
unfoldable pub reads_entry : ℕ → List ℕ → Result Entry WireError
reads_entry at bytes = read_by entry entry_tests entry_value at at bytes

-- the canonical encoding of an entry
unfoldable pub writes_entry : Entry → List ℕ
writes_entry e =
    writes_text 1 e.key.group_key ++ writes_delimited 2 (writes_receiver e.key.receiver) ++ writes_text 3 e.group_hash
    ++ writes_number 4 (if e.resolved then 1 else 0) ++ writes_delimited 5 (writes_moment e.timestamp)
    ++ writes_numbers 6 e.firing_alerts ++ writes_numbers 7 e.resolved_alerts

-- the entry is a value of its type
pub record IsEntry (e : Entry) : Type 0 where
  pub receiver : IsReceiver e.key.receiver
  pub timestamp : e.timestamp ≤ greatest
  pub firing_alerts : All (λ n. n < 2 ^ 64) e.firing_alerts
  pub resolved_alerts : All (λ n. n < 2 ^ 64) e.resolved_alerts
