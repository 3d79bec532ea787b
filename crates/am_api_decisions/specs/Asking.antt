-- Alerts that are asked for the silences that mute them, each by one step, and their tally.
use Rattle.std.specs.Prelude.{◌≡◌, ◌⊎◌, ◌&&◌, ◌==◌, ◌-◌, take, ℕ, Bool, not, List, [], ◌∷◌, ◌++◌, length, map, filter, Result, Ok, Err}
use Rattle.am_api_decisions.specs.Alerts.{alert_hash}
use Rattle.am_api_decisions.specs.declared.answer.Muted.{Muted}
use Rattle.am_api_decisions.specs.declared.message.Alert.{Alert}
use Rattle.am_http.specs.Lines.{RefusalLine}
use Rattle.am_instance.specs.InstanceStates.{InstanceState, entry_at, silence_at}
use Rattle.am_instance.specs.OneStep.{IsStep}
use Rattle.am_gossip.specs.declared.refusals.StepError.{StepError}
use Rattle.am_instance.specs.declared.event.Event.TheVariants as events
use Rattle.am_instance.specs.declared.reply.Outcome.{Outcome}
use Rattle.am_instance.specs.declared.reply.Reply.{Reply}
use Rattle.am_instance.specs.declared.reply.Reply.TheVariants as replies
use Rattle.am_matcher.specs.declared.labels.Label.{Label}
use Rattle.am_nflog.specs.LogKeys.{LogKey}
use Rattle.am_api_silences.specs.Table.{memory_line}
use Rattle.am_api_decisions.specs.Lines.{error_line}

-- an alert that was asked, with the ids of the silences that mute it
pub record AskedAlert : Type 0 where
  pub alert : Alert
  pub ids : List (List ℕ)

-- Both instances hold the same silence under each id and the same entry under each key of the log, and are configured alike:
-- nothing but the moment differs.
pub record HoldsSame (old new : InstanceState) : Type 0 where
  pub silences : (id : List ℕ) → silence_at new.silences id ≡ silence_at old.silences id
  pub log : (key : LogKey) → entry_at new.log key ≡ entry_at old.log key
  pub config : new.config ≡ old.config

-- The reply gives these ids.
abbrev pub TellsIds : Reply → List (List ℕ) → Type 0
TellsIds (replies.Muted mutes) ids = ids ≡ mutes.ids
TellsIds _ ids = ⊥

-- One step at the moment asks for the silences that mute an alert with these labels, and its reply gives the ids.
abbrev pub IsMutesStep : ℕ → List Label → List (List ℕ) → InstanceState → InstanceState → Type 0
IsMutesStep now labels ids old new =
    (outcome : Outcome) × IsStep old (events.Mutes labels) now (Ok outcome) new × TellsIds outcome.reply ids

-- The alerts are asked one after another, each by one step at the moment.
abbrev pub AreAsked : ℕ → List AskedAlert → InstanceState → InstanceState → Type 0
AreAsked now [] old new = new ≡ old
AreAsked now (asked ∷ others) old new =
    (mid : InstanceState) × IsMutesStep now asked.alert.labels asked.ids old mid × AreAsked now others mid new

-- ---- the tally

-- No silence mutes the alert.
abbrev pub is_unmuted : AskedAlert → Bool
is_unmuted asked = length asked.ids == 0

-- No silence mutes the alert, and it fires; or it is resolved.
abbrev pub is_open_firing : AskedAlert → Bool
is_open_firing asked = is_unmuted asked && asked.alert.is_firing

abbrev pub is_open_resolved : AskedAlert → Bool
is_open_resolved asked = is_unmuted asked && not asked.alert.is_firing

-- the hash by which the log knows the alert
abbrev pub hash_of : AskedAlert → ℕ
hash_of asked = alert_hash asked.alert.labels

-- the labels of an alert that is muted, the ids of the first silences that mute it, and how many more there are
pub record Silenced : Type 0 where
  pub labels : List Label
  pub ids : List (List ℕ)
  pub more : ℕ

-- an alert as it is muted, with the first 16 silences named
abbrev pub silenced : AskedAlert → Silenced
silenced asked = record { labels = asked.alert.labels; ids = take 16 asked.ids; more = length asked.ids - 16 }

-- a muted alert, as an answer gives it
abbrev pub silenced_in : Muted → Silenced
silenced_in muted = record { labels = muted.labels; ids = muted.silenced_by.items; more = muted.more }

-- the hashes of the firing and of the resolved alerts that no silence mutes, and the alerts that are muted
pub record Counted : Type 0 where
  pub firing : List ℕ
  pub resolved : List ℕ
  pub muted : List Silenced

-- an alert that wasn't asked, as if no silence muted it
abbrev pub unasked : Alert → AskedAlert
unasked alert = record { alert = alert; ids = [] }

-- the empty tally
abbrev pub nothing_counted : Counted
nothing_counted = record { firing = []; resolved = []; muted = [] }

-- the tally with these alerts added, in order
abbrev pub counted_with : Counted → List AskedAlert → Counted
counted_with before asked = record {
  firing = before.firing ++ map hash_of (filter is_open_firing asked);
  resolved = before.resolved ++ map hash_of (filter is_open_resolved asked);
  muted = before.muted ++ map silenced (filter (λ a. not (is_unmuted a)) asked);
}

-- ---- a stretch of alerts

-- These of the alerts that were left were asked, in order, and counted, and the others are left.
pub record IsAskedOn (now : ℕ) (left : List Alert) (before : Counted) (old : InstanceState) (asked : List AskedAlert) (others : List Alert)
    (after : Counted) (new : InstanceState) : Type 0 where
  pub parts : left ≡ map (λ a. a.alert) asked ++ others
  pub steps : AreAsked now asked old new
  pub counted : after ≡ counted_with before asked

-- the line with which asking stops at a step: the moment is before the last one, or there was no memory for the step or for its
-- answer
abbrev pub stop_line : Result Outcome StepError → RefusalLine
stop_line (Ok outcome) = memory_line
stop_line (Err error) = error_line error

-- Asking for the silences of an alert stops with this line: there was no memory for its step, or the step was made and is the
-- reason.
abbrev pub StopsAt : ℕ → List Label → InstanceState → RefusalLine → InstanceState → Type 0
StopsAt now labels old line new = ((line ≡ memory_line) × (new ≡ old))
    ⊎ ((step : Result Outcome StepError) × IsStep old (events.Mutes labels) now step new × (line ≡ stop_line step))

-- Some of the alerts that were left were asked, and asking the next one stops with this line.
pub record IsStopped (now : ℕ) (left : List Alert) (old : InstanceState) (line : RefusalLine) (new : InstanceState) : Type 0 where
  pub asked : List AskedAlert
  pub alert : Alert
  pub others : List Alert
  pub parts : left ≡ map (λ a. a.alert) asked ++ alert ∷ others
  pub mid : InstanceState
  pub steps : AreAsked now asked old mid
  pub stop : StopsAt now alert.labels mid line new
