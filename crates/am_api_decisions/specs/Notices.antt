-- A notice of what was notified: an answer as it is posted back, a JSON object (RFC 8259). Keys that aren't named here are
-- ignored.
use Rattle.std.specs.Prelude.{◌≡◌, ◌≢◌, ◌⊎◌, ℕ, ◌*◌, ◌^◌, ◌&&◌, nat_lt, Bool, false, if◌then◌else◌, List, codes, Option, Some, None}
use Rattle.std.specs.Prelude.{option_and_then, unwrap_or, ok_or, Result, Ok, Err}
use Rattle.serde_json.specs.Data.{Data}
use Rattle.serde_json.specs.Find.{get}
use Rattle.am_nflog.specs.declared.receiver.Receiver.{Receiver}
use Rattle.am_silence_json.specs.Posts.{text_in, truth_in, HasMoment}
use Rattle.am_api_decisions.specs.declared.key.MessageKey.{MessageKey}
use Rattle.am_api_decisions.specs.declared.key.MessageKey.TheVariants as keys
use Rattle.am_api_decisions.specs.declared.notice.Notice.{Notice}
use Rattle.am_api_decisions.specs.Found.{number_in}
use Rattle.am_api_decisions.specs.Hashes.{hashes_in}
use Rattle.am_api_decisions.specs.Steps.{◌>>=◌}

-- the number, if it has 32 bits
abbrev pub index_of : ℕ → Option ℕ
index_of n = if nat_lt n (2 ^ 32) then Some n else None

-- the number of an integration in its receiver
abbrev pub index_in : Data → Option ℕ
index_in d = option_and_then index_of (number_in (codes "index") d)

-- the nanoseconds in an interval with this number of seconds: 1 to 2^63 - 1
abbrev pub interval_of : ℕ → Option ℕ
interval_of seconds = if nat_lt 0 seconds && nat_lt (seconds * 1_000_000_000) (2 ^ 63) then Some (seconds * 1_000_000_000) else None

-- the repeat interval, given in seconds
abbrev pub repeat_in : Data → Option ℕ
repeat_in d = option_and_then interval_of (number_in (codes "repeat") d)

-- somebody was to be notified
abbrev pub is_told : Data → Bool
is_told d = unwrap_or (truth_in (codes "notify") d) false

-- the receiver that was notified
abbrev pub receiver_of : Data → Result Receiver MessageKey
receiver_of d = do
  group_name ← ok_or (text_in (codes "receiver") d) keys.Receiver
  integration ← ok_or (text_in (codes "integration") d) keys.Integration
  idx ← ok_or (index_in d) keys.Index
  Ok (record { group_name = group_name; integration = integration; idx = idx })

-- the hashes of the alerts that fire, and of those that are resolved
abbrev pub hash_lists_of : Data → Result (List ℕ × List ℕ) MessageKey
hash_lists_of d = do
  firing ← ok_or (hashes_in (codes "firing") d) keys.Firing
  resolved ← ok_or (hashes_in (codes "resolved") d) keys.Resolved
  Ok (firing, resolved)

-- the notice in an object, without the moment of the decision, or the key of its first fault
unfoldable pub undated_in : Data → Result Notice MessageKey
undated_in d = do
  group_key ← ok_or (text_in (codes "groupKey") d) keys.GroupKey
  receiver ← receiver_of d
  repeat ← ok_or (repeat_in d) keys.Repeat
  hashes ← if is_told d then hash_lists_of d else Err keys.Notify
  Ok (record { group_key = group_key; receiver = receiver; firing = hashes.0; resolved = hashes.1; repeat = repeat; decided_at = None })

-- the object is this notice, which leaves out the moment of the decision
abbrev pub IsUndated : Data → Notice → Type 0
IsUndated d n = undated_in d ≡ Ok n

-- the moment of the decision, which may be missing
abbrev pub IsDecidedAt : Data → Option ℕ → Type 0
IsDecidedAt d None = get (codes "decidedAt") d ≡ None
IsDecidedAt d (Some moment) = HasMoment (codes "decidedAt") d moment

-- there is something in place of that moment, but it isn't a moment
pub record HasBadMoment (d : Data) : Type 0 where
  pub there : get (codes "decidedAt") d ≢ None
  pub none : (moment : ℕ) → ¬ HasMoment (codes "decidedAt") d moment

-- the object is this notice
pub record IsNotice (d : Data) (n : Notice) : Type 0 where
  pub notified : IsUndated d (record n { decided_at = None })
  pub decided_at : IsDecidedAt d n.decided_at

-- the moment of the decision is at fault, and nothing before it is
pub record IsMomentFault (d : Data) (key : MessageKey) : Type 0 where
  pub named : key ≡ keys.DecidedAt
  pub notice : Notice
  pub notified : IsUndated d notice
  pub bad : HasBadMoment d

-- the value at this key is missing or of another kind, and that of no key before it is
abbrev pub IsFirstFault : Data → MessageKey → Type 0
IsFirstFault d key = (undated_in d ≡ Err key) ⊎ IsMomentFault d key
