-- The state of a message's draft after some fields.
use Rattle.std.specs.Prelude.{◌≡◌, List}
use Rattle.am_wire.specs.Fields.{FieldAt}
use Rattle.am_wire.specs.Parts.{IsPart}
use Rattle.am_wire.specs.Reading.{last_number, last_text, all_numbers}
use Rattle.am_wire.specs.Timestamps.{timestamp}
use Rattle.am_wire.specs.TimestampDrafts.{IsTimestampDraft}
use Rattle.am_nflog.specs.Receivers.{receiver}
use Rattle.am_nflog.specs.declared.receiver.ReceiverDraft.{ReceiverDraft}
use Rattle.am_nflog.specs.declared.entry.EntryDraft.{EntryDraft}

-- a receiver's draft holds what these fields leave
pub record IsReceiverDraft (es : List FieldAt) (d : ReceiverDraft) : Type 0 where
  pub group_name : d.group_name.text.now ≡ last_text 1 es
  pub integration : d.integration.text.now ≡ last_text 2 es
  pub idx : d.idx.value ≡ last_number 3 es

-- an entry's draft holds what these fields leave
pub record IsEntryDraft (es : List FieldAt) (d : EntryDraft) : Type 0 where
  pub group_key : d.group_key.bytes.now ≡ last_text 1 es
  pub receiver : IsPart IsReceiverDraft receiver 2 es d.receiver
  pub group_hash : d.group_hash.bytes.now ≡ last_text 3 es
  pub resolved : d.resolved.value ≡ last_number 4 es
  pub timestamp : IsPart IsTimestampDraft timestamp 5 es d.timestamp
  pub firing_alerts : d.firing_alerts.items ≡ all_numbers 6 es
  pub resolved_alerts : d.resolved_alerts.items ≡ all_numbers 7 es
