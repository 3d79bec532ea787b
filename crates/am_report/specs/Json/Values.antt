-- Silences and entries of the log as data of JSON (RFC 8259): a silence as API v2 shows it, and an entry with the names and the kinds
-- that ProtoJSON (protobuf.dev, "ProtoJSON Format") gives to the fields of its messages in nflog.proto.
use Rattle.std.specs.Prelude.{ℕ, List, map, codes, decimal}
use Rattle.base64.specs.Engines.{standard}
use Rattle.base64.specs.GeneralPurpose.{encode_of}
use Rattle.serde_json.specs.Data.{Data, number, unsigned, string, array, object, Members, member, no_members}
use Rattle.serde_json.specs.View.{items_of}
use Rattle.am_silence.specs.Mesh.{Mesh}
use Rattle.am_silence.specs.States.{state_of}
use Rattle.am_silence_json.specs.Gettables.{gettable_data}
use Rattle.am_nflog.specs.Mesh.{Mesh as LogMesh}
use Rattle.am_nflog.specs.LogKeys.{LogKey}
use Rattle.am_nflog.specs.declared.receiver.Receiver.{Receiver}
use Rattle.am_report.specs.Texts.{moment_text}

-- {"id":ID}: the key of a silence
abbrev pub id_data : List ℕ → Data
id_data id = object (member (codes "id") (string id) no_members)

-- a silence at the moment
unfoldable pub silence_data : ℕ → Mesh → Data
silence_data now m =
    gettable_data m.silence (state_of m.silence now) (moment_text m.silence.starts_at) (moment_text m.silence.ends_at) (moment_text m.silence.updated_at)

-- {"groupName":NAME,"integration":NAME,"idx":NUMBER}
abbrev pub receiver_data : Receiver → Data
receiver_data r =
    object (
    member (codes "groupName") (string r.group_name) (
    member (codes "integration") (string r.integration) (
    member (codes "idx") (number (unsigned r.idx)) no_members)))

-- "groupKey":KEY,"receiver":RECEIVER, and other members behind them; the bytes of the group key in base64 (RFC 4648, section 4)
abbrev pub key_members : LogKey → Members → Members
key_members key others =
    member (codes "groupKey") (string (encode_of standard key.group_key)) (member (codes "receiver") (receiver_data key.receiver) others)

-- the key of an entry
unfoldable pub log_key_data : LogKey → Data
log_key_data key = object (key_members key no_members)

-- a number of 64 bits, which is a string
abbrev pub hash_data : ℕ → Data
hash_data hash = string (decimal hash)

-- such numbers
abbrev pub hashes_data : List ℕ → Data
hashes_data hashes = array (items_of (map hash_data hashes))

-- an entry
unfoldable pub entry_data : LogMesh → Data
entry_data m =
    object (
    key_members m.entry.key (
    member (codes "timestamp") (string (moment_text m.entry.timestamp)) (
    member (codes "expiresAt") (string (moment_text m.expires_at)) (
    member (codes "firingAlerts") (hashes_data m.entry.firing_alerts) (
    member (codes "resolvedAlerts") (hashes_data m.entry.resolved_alerts) no_members)))))
