-- The state of a timestamp's draft after some fields.
use Rattle.std.specs.Prelude.{◌≡◌, List}
use Rattle.am_wire.specs.Fields.{FieldAt}
use Rattle.am_wire.specs.Reading.{last_number}
use Rattle.am_wire.specs.declared.timestamp.TimestampDraft.{TimestampDraft}

-- the draft holds the last seconds and the last nanoseconds of the fields
pub record IsTimestampDraft (es : List FieldAt) (d : TimestampDraft) : Type 0 where
  pub seconds : d.seconds.value ≡ last_number 1 es
  pub nanos : d.nanos.value ≡ last_number 2 es
