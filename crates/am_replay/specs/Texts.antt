-- The text that is printed for the steps of a schedule, each line with its end.
use Rattle.std.specs.Prelude.{◌≡◌, ℕ, Bool, List, [], ◌++◌, Option, Some, None, Result, Ok, Err, option_map, codes, slice_get, unwrap_or}
use Rattle.std.specs.Borrow.{Bor}
use Rattle.am_gossip.specs.Frames.{kind_of}
use Rattle.am_matcher.specs.declared.muted.Mutes.{Mutes}
use Rattle.am_instance.specs.declared.reply.Reply.{Reply}
use Rattle.am_instance.specs.declared.reply.Reply.TheVariants as replies
use Rattle.am_schedule.specs.declared.step.Action.{Action}
use Rattle.am_schedule.specs.declared.step.Action.TheVariants as actions
use Rattle.am_schedule.specs.declared.step.LineEvent.{LineEvent}
use Rattle.am_schedule.specs.declared.step.LineEvent.TheVariants as events
use Rattle.am_cluster.specs.declared.error.ClusterError.{ClusterError}
use Rattle.am_cluster.specs.declared.error.ClusterError.TheVariants as errors
use Rattle.am_cluster.specs.declared.error.SettleError.{SettleError}
use Rattle.am_cluster.specs.declared.error.SettleError.TheVariants as settle_errors
use Rattle.am_cluster.specs.declared.flight.Flight.{Flight}
use Rattle.am_cluster.specs.Ties.{names_in}
use Rattle.am_cluster.specs.Worlds.{World}
use Rattle.am_report.specs.Views.{shown_text}
use Rattle.am_replay.specs.declared.line.OutputLine.{OutputLine}
use Rattle.am_replay.specs.declared.line.OutputLine.TheVariants as lines
use Rattle.am_replay.specs.declared.refusal.LineRefusal.{LineRefusal}
use Rattle.am_replay.specs.declared.refusal.LineRefusal.TheVariants as refusals
use Rattle.am_replay.specs.Printed.{line_text}
use Rattle.am_replay.specs.Refusals.{kind_of as silence_refusal}

-- a value as a line borrows it
abbrev pub lent : {A : Type 0} → A → Bor A
lent x = record { ref_ptr = (0, 0); now = x }

-- the text of a line with its end
abbrev pub told : OutputLine → List ℕ
told line = line_text line ++ codes "\n"

-- ---- what a member answers

-- the text that says that a silence was ended
abbrev pub ended_text : List ℕ → LineEvent → List ℕ
ended_text name (events.Expire id) = told (lines.Expired (lent name) (lent id))
ended_text name _ = []

-- the text with the silences that mute a label set, and those that are broken
abbrev pub muted_text : List ℕ → Mutes → List ℕ
muted_text name mutes = told (lines.Muted (lent name) (lent mutes.ids) (lent mutes.broken))

-- the text that is printed for the reply of a member of this name
abbrev pub reply_text : List ℕ → LineEvent → Reply → List ℕ
reply_text name event (replies.Posted id) = told (lines.Posted (lent name) (lent id))
reply_text name event replies.Deleted = ended_text name event
reply_text name event (replies.Refused error) = told (lines.Refused (Some (lent name)) (silence_refusal error))
reply_text name event (replies.Logged changed) = told (lines.Logged (lent name) changed)
reply_text name event (replies.Decided decision) = told (lines.Decided (lent name) decision)
reply_text name event (replies.Muted mutes) = muted_text name mutes
reply_text name event (replies.Shown silences log) = shown_text (Some name) silences.items log.items
reply_text name event (replies.Silences shown) = []
reply_text name event (replies.Silence silence state) = []
reply_text name event replies.Nothing = []

-- the text that is printed for the reply to a step: nothing, unless the step is the event of a member
abbrev pub answer_text : Action → Reply → List ℕ
answer_text (actions.Event at name event) reply = reply_text name event reply
answer_text (actions.Stop name) reply = []
answer_text (actions.Save name) reply = []
answer_text (actions.Deliver at frame) reply = []
answer_text (actions.Lose frame) reply = []

-- ---- what is refused

-- the member that a step names, with which its refusal begins; the step of a frame names none
abbrev pub owner_of : Action → Option (List ℕ)
owner_of (actions.Event at name event) = Some name
owner_of (actions.Stop name) = Some name
owner_of (actions.Save name) = Some name
owner_of (actions.Deliver at frame) = None
owner_of (actions.Lose frame) = None

-- the kind of a refused step; none if memory ran out, which ends the playing
abbrev pub step_refusal : ClusterError → Option LineRefusal
step_refusal errors.NoFrame = Some refusals.NoFrame
step_refusal errors.Running = Some refusals.Running
step_refusal errors.Stopped = Some refusals.Stopped
step_refusal (errors.MomentBack last) = Some refusals.MomentBack
step_refusal errors.UnknownPeer = Some refusals.UnknownPeer
step_refusal errors.Memory = None

-- the kind of a refused settle
abbrev pub settle_refusal : SettleError → Option LineRefusal
settle_refusal settle_errors.Stopped = Some refusals.Stopped
settle_refusal settle_errors.MomentBack = Some refusals.MomentBack
settle_refusal settle_errors.Memory = None

-- the text that is printed for a refusal
abbrev pub refused_text : Option (List ℕ) → Option LineRefusal → Option (List ℕ)
refused_text owner None = None
refused_text owner (Some refusal) = Some (told (lines.Refused (option_map lent owner) refusal))

-- ---- what a line prints

-- the text of a step; none if memory ran out
abbrev pub step_text : Action → Result Reply ClusterError → Option (List ℕ)
step_text action (Ok reply) = Some (answer_text action reply)
step_text action (Err error) = refused_text (owner_of action) (step_refusal error)

-- the text of a settle, which belongs to no member
abbrev pub settle_text : Result Unit SettleError → Option (List ℕ)
settle_text (Ok _) = Some (told lines.Settled)
settle_text (Err error) = refused_text None (settle_refusal error)

-- the text that says whether the run was timely so far
abbrev pub timely_text : Bool → List ℕ
timely_text is_timely = told (lines.Timely is_timely)

-- the name of the member at a place, taken from the first member, which names all of them
abbrev pub name_at : World → ℕ → List ℕ
name_at world place = unwrap_or (slice_get (names_in world) place) []

-- the text of a frame in flight
abbrev pub flight_text : World → Flight → List ℕ
flight_text world flight =
    told (lines.Frame flight.number (lent (name_at world flight.sender)) (lent (name_at world flight.addressee)) (kind_of flight.frame))

-- The text, if there is one, was appended to what was printed before.
abbrev pub Prints : Option (List ℕ) → List ℕ → List ℕ → Type 0
Prints None before after = ⊥
Prints (Some text) before after = after ≡ before ++ text
