-- The versions that the lines of a schedule write.
use Rattle.std.specs.Prelude.{◌≡◌, ◌≤◌, ℕ, List, [], ◌∷◌, length, map, min, false, Result, Ok}
use Rattle.am_version_order.specs.Moments.{greatest}
use Rattle.am_version_order.specs.Versions.{Version}
use Rattle.am_wire.specs.Limits.{most}
use Rattle.am_wire.specs.declared.error.WireError.{WireError}
use Rattle.am_wire.specs.declared.unknown.Unknown.{Unknown}
use Rattle.am_silence.specs.declared.matcher.Matcher.{Matcher}
use Rattle.am_silence.specs.declared.matcher.MatcherKind.TheVariants as kinds
use Rattle.am_silence.specs.Mesh.{Mesh, mesh_version, plain_version}
use Rattle.am_nflog.specs.declared.receiver.Receiver.{Receiver}
use Rattle.am_nflog.specs.Mesh.{Mesh as LogMesh, mesh_version as entry_version, plain_version as plain_entry}
use Rattle.am_snapshot.specs.Encodings.{row_encoding}
use Rattle.am_gossip.specs.declared.frame.Part.{Part}
use Rattle.am_gossip.specs.declared.frame.StateKey.TheVariants.{Sil, Nfl}
use Rattle.am_instance.specs.Deliveries.{Delivery}
use Rattle.am_instance.specs.Deliveries.Delivery.{OfSilence, OfEntry}
use Rattle.am_schedule.specs.declared.step.SilenceLine.{SilenceLine}
use Rattle.am_schedule.specs.declared.step.LogLine.{LogLine}
use Rattle.am_schedule.specs.declared.step.Versions.{Versions}
use Rattle.am_schedule.specs.declared.step.Versions.TheVariants as states

-- a version is read from its content wherever that stands, with unknown fields or without, and is not too large for a row
pub record IsReadAgain {K X : Type 0} (seen : X → Version K) (reads : Unknown → ℕ → List ℕ → Result X WireError) (v : X) : Type 0 where
  pub reads_as : (unknown : Unknown) (at : ℕ) → reads unknown at (seen v).content ≡ Ok v
  pub within : length (seen v).content ≤ most

-- the one matcher, which wants the value of a label
abbrev pub wants : List ℕ → List ℕ → List Matcher
wants name value = record { kind = kinds.Equal; name = name; pattern = value } ∷ []

-- the silence of a line, with no author and no comment
abbrev pub silence_of : SilenceLine → Mesh
silence_of line = plain_version (record {
  id = line.id;
  matchers = wants line.name line.value;
  starts_at = line.starts;
  ends_at = line.ends;
  updated_at = line.updated;
  created_by = [];
  comment = [];
}) line.expires

-- a receiver that has only a group name: no integration, and index 0
abbrev pub receiver_of : List ℕ → Receiver
receiver_of name = record { group_name = name; integration = []; idx = 0 }

-- the entry of a line, with no group hash, and not resolved
abbrev pub entry_of : LogLine → LogMesh
entry_of line = plain_entry (record {
  key = record { group_key = line.group; receiver = receiver_of line.receiver };
  group_hash = [];
  resolved = false;
  timestamp = line.updated;
  firing_alerts = line.firing;
  resolved_alerts = line.resolved;
}) line.expires

-- the versions of lines, in their order
abbrev pub versions_of : Versions → List Delivery
versions_of (states.Silences lines) = map OfSilence (map silence_of lines)
versions_of (states.Log lines) = map OfEntry (map entry_of lines)

-- the part that is written of versions: their state, and the row of their canonical encodings
abbrev pub part_of : Versions → Part
part_of (states.Silences lines) = record { key = Sil; bytes = row_encoding mesh_version (map silence_of lines) }
part_of (states.Log lines) = record { key = Nfl; bytes = row_encoding entry_version (map entry_of lines) }

-- the update moment of a version
abbrev pub updated : Delivery → ℕ
updated (OfSilence v) = v.silence.updated_at
updated (OfEntry e) = e.entry.timestamp

-- the least of moments, or the last moment of all if there are none
abbrev pub least : List ℕ → ℕ
least [] = greatest
least (at ∷ others) = min at (least others)

-- the moment at which a frame of versions counts as sent: their least update moment
abbrev pub sent_at : List Delivery → ℕ
sent_at versions = least (map updated versions)
