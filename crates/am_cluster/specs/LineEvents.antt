-- The steps that the lines of a schedule ask of a member.
use Rattle.std.specs.Prelude.{◌≡◌, ◌≤◌, ℕ, Bool, List, [], map, All, Option, Some, None}
use Rattle.am_wire.specs.declared.unknown.Unknown.{Unknown}
use Rattle.am_silence.specs.declared.plan.Posted.{Posted}
use Rattle.am_matcher.specs.declared.labels.Label.{Label}
use Rattle.am_gossip.specs.declared.frame.Frame.TheVariants as frames
use Rattle.am_runs.specs.declared.step.DeliverySource.TheVariants as sources
use Rattle.am_instance.specs.Configs.{Settings, place_named}
use Rattle.am_instance.specs.Deliveries.{Delivery}
use Rattle.am_instance.specs.Steps.{fault_of, brought}
use Rattle.am_instance.specs.declared.event.Event.{Event}
use Rattle.am_instance.specs.declared.event.Event.TheVariants as events
use Rattle.am_instance.specs.declared.event.Request.TheVariants as requests
use Rattle.am_schedule.specs.declared.step.Versions.{Versions}
use Rattle.am_schedule.specs.declared.step.PostLine.{PostLine}
use Rattle.am_schedule.specs.declared.step.GroupLine.{GroupLine}
use Rattle.am_schedule.specs.declared.step.Pair.{Pair}
use Rattle.am_schedule.specs.declared.step.LineEvent.{LineEvent}
use Rattle.am_schedule.specs.declared.step.LineEvent.TheVariants as lines
use Rattle.am_cluster.specs.declared.resolved_event.ResolvedEvent.{ResolvedEvent}
use Rattle.am_cluster.specs.declared.resolved_event.ResolvedEvent.TheVariants as asked
use Rattle.am_cluster.specs.Versions.{wants, receiver_of, versions_of, part_of, updated, sent_at}

-- a step that brings no versions
abbrev pub made : Event → ResolvedEvent
made event = asked.Event event sources.Made

-- the event of a Delta of the versions that comes from the member at a place
abbrev pub delta_from : ℕ → Versions → Event
delta_from sender versions = events.Frame sender (frames.Delta (part_of versions))

-- the step of that event, which counts as sent at the least update moment of the versions
abbrev pub from : Option ℕ → Versions → ResolvedEvent
from None versions = asked.NoMember
from (Some sender) versions = asked.Event (delta_from sender versions) (sources.Written (sent_at (versions_of versions)))

-- the post of a line: one matcher, and no author or comment
abbrev pub posted : PostLine → Posted
posted line = record {
  id = line.id;
  matchers = wants line.name line.value;
  starts_at = line.starts;
  ends_at = line.ends;
  created_by = [];
  comment = [];
}

-- the event that a group is notified
abbrev pub notified : GroupLine → Event
notified group = events.Notified group.group (receiver_of group.receiver) group.firing group.resolved group.repeat

-- the event that asks whether a group is to be notified
abbrev pub decide : GroupLine → Bool → Event
decide group wanted = events.Decide group.group (receiver_of group.receiver) group.firing group.resolved group.repeat wanted

-- the label of a pair of words of a line
abbrev pub label_of : Pair → Label
label_of pair = record { name = pair.name; value = pair.value }

-- the step that sends a Push to a peer, which answers with its own state
abbrev pub pull : Option ℕ → ResolvedEvent
pull None = asked.NoMember
pull (Some place) = made (events.PullFrom place)

-- the step that a line asks of a member with this configuration
abbrev pub asked_by : Settings → LineEvent → ResolvedEvent
asked_by config (lines.From peer versions) = from (place_named config peer) versions
asked_by config (lines.Post line) = made (events.Request (requests.Post (posted line) line.bits))
asked_by config (lines.Expire id) = made (events.Request (requests.Delete id))
asked_by config (lines.Notified group) = made (notified group)
asked_by config (lines.Decide group wanted) = made (decide group wanted)
asked_by config (lines.Mutes labels) = made (events.Mutes (map label_of labels))
asked_by config lines.Show = made events.Show
asked_by config lines.Tick = made events.Tick
asked_by config (lines.Pull peer) = pull (place_named config peer)
asked_by config lines.Start = asked.Start

-- the versions that a line brings
abbrev pub brought_by : LineEvent → List Delivery
brought_by (lines.From peer versions) = versions_of versions
brought_by _ = []

-- the event has no fault of its own, whatever the instance and the moment
abbrev pub IsFaultless : Event → Type 0
IsFaultless event = (config : Settings) (now : ℕ) → fault_of config now event ≡ None

-- the event that is asked for has no fault of its own
abbrev pub IsSound : ResolvedEvent → Type 0
IsSound (asked.Event event source) = IsFaultless event
IsSound asked.Start = Unit {0}
IsSound asked.NoMember = Unit {0}

-- the step brings just these versions, whatever is done with unknown fields
abbrev pub Brings : ResolvedEvent → List Delivery → Type 0
Brings (asked.Event event source) versions = (unknown : Unknown) → brought unknown event ≡ versions
Brings asked.Start versions = Unit {0}
Brings asked.NoMember versions = Unit {0}

-- a frame that was written counts as sent before any of these versions was made, or just when the first was
abbrev pub IsSentBefore : ResolvedEvent → List Delivery → Type 0
IsSentBefore (asked.Event event (sources.Written sent)) versions = All (λ v. sent ≤ updated v) versions
IsSentBefore _ versions = Unit {0}
