-- The refusals of requests to a member.
use Rattle.std.proofs.Common.{◌≡◌, ◌<◌, ◌≤◌, ℕ, Bool, true, false, cond, ltb, not, refl, subst, length, Option, Some, None, arith}
use Rattle.std.proofs.lemmas.Bool.{ltb-true}
use Rattle.std.proofs.lemmas.Bool.Decides.{nat_tests}
use Rattle.am_runs.specs.Members.{Member, last_of, member_of, stepped}
use Rattle.am_instance.specs.Steps.{fault_of, knows_peer, peer_of}
use Rattle.am_instance.specs.declared.event.Event.{Event}
use Rattle.am_cluster.specs.declared.resolved_event.ResolvedEvent.{ResolvedEvent}
use Rattle.am_cluster.specs.declared.resolved_event.ResolvedEvent.TheVariants as asked
use Rattle.am_cluster.specs.declared.error.ClusterError.{ClusterError}
use Rattle.am_cluster.specs.declared.error.ClusterError.TheVariants as errors
use Rattle.am_cluster.specs.declared.journal.mark.Mark.{Mark}
use Rattle.am_cluster.specs.declared.journal.mark.Mark.TheVariants as marks
use Rattle.am_cluster.specs.Events.{CanHave}
use Rattle.am_cluster.specs.Lives.{CanBegin, OfMember}
use Rattle.am_cluster.specs.Marks.{step_of_mark}
use Rattle.am_cluster.specs.Refusals.{IsIdle, event_refusal, mark_of, refused_anyway, start_refusal}
use Rattle.am_cluster.specs.Reports.{IsPossibleForSilences}
use Rattle.am_cluster.specs.Ties.{IsWorld}
use Rattle.am_cluster.specs.Worlds.{Replica, World, replica_at}
use Rattle.am_cluster.proofs.Lived.{last_told}
use Rattle.am_cluster.proofs.Turned.{got}

-- ---- what a refusal says of a member

module _ (now : ℕ) where
  some_late : (last : ℕ) (b : Bool) (other : Option ClusterError) (cause : ClusterError) (told : ℕ) → ltb now last ≡ b → (other ≡ Some cause → cause ≡ errors.MomentBack told → ⊥) →
      cond b (Some (errors.MomentBack last)) other ≡ Some cause → cause ≡ errors.MomentBack told → now < last
  some_late last true other cause told is never here back = ltb-true now last is
  some_late last false other cause told is never here back = absurd (never here back)

  by_event : (known runs : Bool) (last : ℕ) (cause : ClusterError) (told : ℕ) →
      cond (not runs) (Some errors.Stopped) (cond (ltb now last) (Some (errors.MomentBack last)) (cond known None (Some errors.UnknownPeer))) ≡ Some cause → cause ≡ errors.MomentBack told → now < last
  by_event known false last cause told here back = absurd cc
  by_event true true last cause told here back = some_late last (ltb now last) None cause told refl (λ e b. absurd cc) here back
  by_event false true last cause told here back = some_late last (ltb now last) (Some errors.UnknownPeer) cause told refl (λ e b. absurd cc) here back

  by_start : (runs : Bool) (last : ℕ) (cause : ClusterError) (told : ℕ) →
      cond runs (Some errors.Running) (cond (ltb now last) (Some (errors.MomentBack last)) None) ≡ Some cause → cause ≡ errors.MomentBack told → now < last
  by_start true last cause told here back = absurd cc
  by_start false last cause told here back = some_late last (ltb now last) None cause told refl (λ e b. absurd cc) here back

  -- what is refused for its moment comes before the member's last one
  pub late_event : (known : Bool) (replica : Replica) (cause : ClusterError) (told : ℕ) → event_refusal known replica now ≡ Some cause → cause ≡ errors.MomentBack told → now < replica.stand.last
  late_event known replica cause told here back = by_event known replica.runs replica.stand.last cause told here back

  pub late_cause : (replica : Replica) (what : ResolvedEvent) (cause : ClusterError) (told : ℕ) → refused_anyway replica what now ≡ Some cause → cause ≡ errors.MomentBack told → now < replica.stand.last
  late_cause replica (asked.Event e source) cause told here back = late_event (knows_peer replica.stand.config (peer_of e)) replica cause told here back
  late_cause replica asked.NoMember cause told here back = late_event false replica cause told here back
  late_cause replica asked.Start cause told here back = by_start replica.runs replica.stand.last cause told here back

  none_forward : (last : ℕ) (b : Bool) (other : Option ClusterError) → ltb now last ≡ b → cond b (Some (errors.MomentBack last)) other ≡ None → (last ≤ now) × (other ≡ None)
  none_forward last true other is none = absurd cc
  none_forward last false other is none = (grind (arith, nat_tests, is), none)

  known_where : (known : Bool) → cond known None (Some errors.UnknownPeer) ≡ None → known ≡ true
  known_where true none = refl
  known_where false none = absurd cc

  by_none : (known runs : Bool) (last : ℕ) →
      cond (not runs) (Some errors.Stopped) (cond (ltb now last) (Some (errors.MomentBack last)) (cond known None (Some errors.UnknownPeer))) ≡ None → (runs ≡ true) × (last ≤ now) × (known ≡ true)
  by_none known false last none = absurd cc
  by_none known true last none = let rest = none_forward last (ltb now last) (cond known None (Some errors.UnknownPeer)) refl none in (refl, rest.0, known_where known rest.1)

  begin_where : (runs : Bool) (last : ℕ) → cond runs (Some errors.Running) (cond (ltb now last) (Some (errors.MomentBack last)) None) ≡ None → (runs ≡ false) × (last ≤ now)
  begin_where true last none = absurd cc
  begin_where false last none = (refl, (none_forward last (ltb now last) None refl none).0)

  -- a member to which an event isn't refused can have it, and one to which a start isn't can be started
  pub can_have : (replica : Replica) (e : Event) → fault_of replica.stand.config now e ≡ None → event_refusal (knows_peer replica.stand.config (peer_of e)) replica now ≡ None → CanHave replica e now
  can_have replica e sound none =
      let is = by_none (knows_peer replica.stand.config (peer_of e)) replica.runs replica.stand.last none in
      record { runs = is.0; accepted = record { forward = is.1; known = is.2; sound = sound } }

  pub can_begin : (replica : Replica) → start_refusal replica now ≡ None → CanBegin replica now
  can_begin replica none = let is = begin_where replica.runs replica.stand.last none in record { stopped = is.0; forward = is.1 }

  -- an event with a peer that no member is is always refused
  pub stranger_refused : (replica : Replica) → event_refusal false replica now ≡ None → ⊥
  stranger_refused replica none = let is = by_none false replica.runs replica.stand.last none in let never = is.2 in cc

-- ---- how it is written down

pub idle_mark : (cause : ClusterError) (place now : ℕ) → IsIdle (mark_of cause place now)
idle_mark errors.NoFrame place now = tt
idle_mark errors.Running place now = tt
idle_mark errors.Stopped place now = tt
idle_mark (errors.MomentBack last) place now = tt
idle_mark errors.UnknownPeer place now = tt
idle_mark errors.Memory place now = tt

-- such a step makes nothing of a member
pub idle_step : {X : Type 0} (mark : Mark) → IsIdle mark → (m : Member X) → stepped m (step_of_mark mark) ≡ m
idle_step (marks.Back place now) idle m = refl
idle_step (marks.Refused now) idle m = refl
idle_step (marks.Ticked place now) idle m = absurd idle
idle_step (marks.Saved place) idle m = absurd idle
idle_step (marks.Stopped place) idle m = absurd idle
idle_step (marks.Started place now) idle m = absurd idle

module _ (v : World) (place now : ℕ) (is : IsWorld v) (within : place < length v.replicas) where
  before_last : (replica : Replica) → replica_at v place ≡ Some replica → now < replica.stand.last → now < last_of (member_of (length v.replicas) place v.silences)
  before_last replica found less =
      subst (λ n. now < n) (last_told v place replica (length v.replicas) v.silences is found refl refl) less

  -- it can come next
  pub can_mark : (cause : ClusterError) → ((last : ℕ) → cause ≡ errors.MomentBack last → OfMember v place (λ replica. now < replica.stand.last)) →
      IsPossibleForSilences (length v.replicas) v.silences (step_of_mark (mark_of cause place now))
  can_mark (errors.MomentBack last) late =
      let here = got v.replicas place within in before_last here.0 here.1 (late last refl here.0 here.1)
  can_mark errors.NoFrame late = tt
  can_mark errors.Running late = tt
  can_mark errors.Stopped late = tt
  can_mark errors.UnknownPeer late = tt
  can_mark errors.Memory late = tt
