-- Steps that are no turns of a connection.
use Rattle.std.proofs.Common.{◌≡◌, inl, inr, ℕ, Bool, true, false, List, [], ◌∷◌, ◌++◌, map, Result, Ok, Err, refl, subst}
use Rattle.am_http.specs.Lines.{RefusalLine}
use Rattle.am_http.specs.declared.refusal.Refusal.{Refusal}
use Rattle.am_api_decisions.specs.declared.notice.Notice.{Notice}
use Rattle.am_instance.specs.declared.event.Event.{Event}
use Rattle.am_instance.specs.declared.event.Event.TheVariants as events
use Rattle.am_instance.specs.declared.reply.Outcome.{Outcome}
use Rattle.am_instance.specs.InstanceStates.{InstanceState}
use Rattle.am_instance.specs.Laws.{Happened}
use Rattle.am_instance.specs.OneStep.{IsStep}
use Rattle.am_matcher.specs.declared.labels.Label.{Label}
use Rattle.am_gossip.specs.declared.refusals.StepError.{StepError}
use Rattle.am_api_silences.specs.Answers.{Answered}
use Rattle.am_api_silences.specs.declared.replies.ResponseBytes.{ResponseBytes}
use Rattle.am_api_decisions.specs.Asking.{AreAsked, AskedAlert, Counted, IsStopped, StopsAt, counted_with, unasked}
use Rattle.am_api_decisions.specs.Deciding.{IsGoingOn, Underway}
use Rattle.am_api_decisions.specs.Noticing.{IsNoticed, IsNoticedBy, is_late, notified_event}
use Rattle.am_api_decisions.specs.Settling.{IsBrokenOff, IsDecided, IsSettledBy, decide_event, has_none}
use Rattle.am_api_decisions.specs.declared.group.Group.{Group}
use Rattle.am_api_decisions.specs.declared.settling.Judgement.{Judgement}
use Rattle.am_api_decisions.specs.declared.settling.Judgement.TheVariants.{Whole, Partial}
use Rattle.am_api_decisions.specs.declared.timing.Timing.{Timing}
use Rattle.am_member.specs.Lives.{IsPagingEvent}
use Rattle.am_server.specs.Answered.{AreStepsOf, ForPages, MakesOnly}

-- none
pub nothing_made : (Is : Event → Type 0) (old new : InstanceState) → new ≡ old → MakesOnly Is old new
nothing_made Is old new same = record { steps = []; made = same }

-- one
pub one_made : (Is : Event → Type 0) (old new : InstanceState) (event : Event) (now : ℕ) (answer : Result Outcome StepError) → Is event → IsStep old event now answer new →
    MakesOnly Is old new
one_made Is old new event now answer own step = record { steps = record { event = event; now = now; answer = answer; left = new } ∷ []; made = (own, step, refl) }

steps_on : (Is : Event → Type 0) (old mid new : InstanceState) (steps others : List Happened) → AreStepsOf Is old steps mid → AreStepsOf Is mid others new → AreStepsOf Is old (steps ++ others) new
steps_on Is old mid new [] others same more = subst (λ (s : InstanceState). AreStepsOf Is s others new) same more
steps_on Is old mid new (h ∷ hs) others made more = (made.0, made.1, steps_on Is h.left mid new hs others made.2 more)

-- one after the other
pub made_on : (Is : Event → Type 0) (old mid new : InstanceState) → MakesOnly Is old mid → MakesOnly Is mid new → MakesOnly Is old new
made_on Is old mid new first then = record { steps = first.steps ++ then.steps; made = steps_on Is old mid new first.steps then.steps first.made then.made }

-- alerts that were asked
asked_made : (now : ℕ) (asked : List AskedAlert) (old new : InstanceState) → AreAsked now asked old new → ForPages old new
asked_made now [] old new same = nothing_made IsPagingEvent old new same
asked_made now (alert ∷ others) old new asked =
    made_on IsPagingEvent old asked.0 new (one_made IsPagingEvent old asked.0 (events.Mutes alert.alert.labels) now (Ok asked.1.0) tt asked.1.1) (asked_made now others asked.0 new asked.2)

stop_made : (now : ℕ) (labels : List Label) (old : InstanceState) (line : RefusalLine) (new : InstanceState) → StopsAt now labels old line new → ForPages old new
stop_made now labels old line new (inl none) = nothing_made IsPagingEvent old new none.1
stop_made now labels old line new (inr step) = one_made IsPagingEvent old new (events.Mutes labels) now step.0 tt step.1

stopped_made : (now : ℕ) (before : Underway) (old : InstanceState) (line : RefusalLine) (new : InstanceState) → IsStopped now before.left old line new → ForPages old new
stopped_made now before old line new stopped =
    made_on IsPagingEvent old stopped.mid new (asked_made now stopped.asked old stopped.mid stopped.steps) (stop_made now stopped.alert.labels stopped.mid line new stopped.stop)

-- a decision that goes on
pub going_on_made : (now most : ℕ) (before : Underway) (old : InstanceState) (after : Result Underway Refusal) (new : InstanceState) → IsGoingOn now most before old after new → ForPages old new
going_on_made now most before old (Ok after) new on = asked_made now on.asked old new on.on.steps
going_on_made now most before old (Err refusal) new stopped = stopped_made now before old _ new stopped

settled_made : (muted : Bool) (judgement : Judgement) (timing : Timing) (group : Group) (counted : Counted) (old : InstanceState) (reply : ResponseBytes) (new : InstanceState) →
    IsSettledBy muted judgement timing group counted old reply new → ForPages old new
settled_made true judgement timing group counted old reply new whole = nothing_made IsPagingEvent old new whole.same
settled_made false judgement timing group counted old reply new (inl none) = nothing_made IsPagingEvent old new none.1
settled_made false judgement timing group counted old reply new (inr step) = one_made IsPagingEvent old new (decide_event group counted) timing.now step.0 tt step.1

-- a decision that is made
pub decided_made : (timing : Timing) (before : Underway) (old : InstanceState) (reply : ResponseBytes) (new : InstanceState) → IsDecided timing before old reply new → ForPages old new
decided_made timing before old reply new (inl all) =
    made_on IsPagingEvent old all.mid new (asked_made timing.now all.asked old all.mid all.all.steps) (settled_made (has_none all.counted) Whole timing before.group all.counted all.mid reply new all.settled)
decided_made timing before old reply new (inr cut) = stopped_made timing.now before old cut.line new cut.stopped

-- a decision that is broken off
pub broken_off_made : (timing : Timing) (before : Underway) (old : InstanceState) (reply : ResponseBytes) (new : InstanceState) → IsBrokenOff timing before old reply new → ForPages old new
broken_off_made timing before old reply new (inl none) = nothing_made IsPagingEvent old new none.1
broken_off_made timing before old reply new (inr settled) =
    let counted = counted_with before.counted (map unasked before.left) in
    settled_made (has_none counted) Partial timing before.group counted old reply new settled

noticed_made : (late : Bool) (now : ℕ) (notice : Notice) (old : InstanceState) (answered : Answered) (new : InstanceState) → IsNoticedBy late now notice old answered new → ForPages old new
noticed_made true now notice old answered new passed = nothing_made IsPagingEvent old new passed.same
noticed_made false now notice old answered new logged = one_made IsPagingEvent old new (notified_event notice) now logged.0 tt logged.1

-- a notice that is logged, or comes too late for that
pub logged_made : (now : ℕ) (notice : Notice) (old : InstanceState) (answered : Answered) (new : InstanceState) → IsNoticed now notice old answered new → ForPages old new
logged_made now notice old answered new (inl noticed) = noticed_made (is_late notice old) now notice old answered new noticed
logged_made now notice old answered new (inr unread) = nothing_made IsPagingEvent old new unread.same
