-- The reasons why something is refused to a member, and how a refusal is told and recorded.
use Rattle.std.specs.Prelude.{◌≡◌, ◌⊎◌, ℕ, ◌<◌, Bool, true, false, not, Option, Some, None, Result, Err, nat_lt, if◌then◌else◌}
use Rattle.am_instance.specs.Configs.{Settings}
use Rattle.am_instance.specs.Steps.{knows_peer, peer_of}
use Rattle.am_cluster.specs.declared.resolved_event.ResolvedEvent.{ResolvedEvent}
use Rattle.am_cluster.specs.declared.resolved_event.ResolvedEvent.TheVariants as asked
use Rattle.am_cluster.specs.declared.error.ClusterError.{ClusterError}
use Rattle.am_cluster.specs.declared.error.ClusterError.TheVariants as errors
use Rattle.am_cluster.specs.declared.journal.mark.Mark.{Mark}
use Rattle.am_cluster.specs.declared.journal.mark.Mark.TheVariants as marks
use Rattle.am_cluster.specs.Marks.{step_of_mark}
use Rattle.am_cluster.specs.Worlds.{Replica, World, written}

-- true if what is asked names no peer, or one that is another member
abbrev pub names_peer : Settings → ResolvedEvent → Bool
names_peer config (asked.Event event source) = knows_peer config (peer_of event)
names_peer config asked.Start = true
names_peer config asked.NoMember = false

-- the reason why an event is refused to a member: it is stopped, its last moment is after this one, or it doesn't know the peer
abbrev pub event_refusal : Bool → Replica → ℕ → Option ClusterError
event_refusal known replica now =
    if not replica.runs then Some errors.Stopped
    else if nat_lt now replica.stand.last then Some (errors.MomentBack replica.stand.last)
    else if known then None else Some errors.UnknownPeer

-- the reason why a start is refused to a member: it runs, or its last moment is after this one
abbrev pub start_refusal : Replica → ℕ → Option ClusterError
start_refusal replica now =
    if replica.runs then Some errors.Running
    else if nat_lt now replica.stand.last then Some (errors.MomentBack replica.stand.last)
    else None

-- The first reason that applies why what is asked is refused to a member, if it is. Finding that out takes no memory.
abbrev pub refused_anyway : Replica → ResolvedEvent → ℕ → Option ClusterError
refused_anyway replica asked.Start now = start_refusal replica now
refused_anyway replica what now = event_refusal (names_peer replica.stand.config what) replica now

-- the mark of a refusal: one for the moment counts against the member at a place, any other against nobody
abbrev pub mark_of : ClusterError → ℕ → ℕ → Mark
mark_of (errors.MomentBack last) place now = marks.Back place now
mark_of cause place now = marks.Refused now

-- the mark changes no member
abbrev pub IsIdle : Mark → Type 0
IsIdle (marks.Back place now) = Unit {0}
IsIdle (marks.Refused now) = Unit {0}
IsIdle _ = ⊥

-- there was no memory to make a step, and nothing has changed
pub record IsUnmade {A : Type 0} (old : World) (result : Result A ClusterError) (new : World) : Type 0 where
  pub error : result ≡ Err errors.Memory
  pub world : new ≡ old

-- the cause is told, and recorded in a line
pub record IsToldAs {A : Type 0} (cause : ClusterError) (mark : Mark) (old : World) (line : ℕ) (result : Result A ClusterError)
    (new : World) : Type 0 where
  pub error : result ≡ Err cause
  pub world : new ≡ written old (step_of_mark mark) (step_of_mark mark) line

-- A step is refused for a cause.
pub record IsRefused {A : Type 0} (cause : ClusterError) (mark : Mark) (old : World) (line : ℕ) (result : Result A ClusterError)
    (new : World) : Type 0 where
  -- the cause is told and recorded, or there was no memory to record it
  pub answer : IsToldAs cause mark old line result new ⊎ IsUnmade old result new
  -- if there was room, the cause is told
  pub with_room : 0 < old.room → result ≡ Err cause
