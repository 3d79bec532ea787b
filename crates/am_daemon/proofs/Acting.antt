-- A member's own work, and the frames that wait for peers then.
use Rattle.std.proofs.Common.{◌≡◌, ◌∙◌, ℕ, Option, None, Some, Result, ap, inl, inr, refl, subst, sym}
use Rattle.std.specs.Prelude.{if◌then◌else◌}
use Rattle.am_backend.specs.Outbound.{IsSentOn}
use Rattle.am_gossip.specs.declared.frame.Frame.{Frame}
use Rattle.am_gossip.specs.declared.refusals.StepError.{StepError}
use Rattle.am_instance.specs.InstanceStates.{InstanceState}
use Rattle.am_instance.specs.OneStep.{IsStep}
use Rattle.am_instance.specs.Sendings.{Sent}
use Rattle.am_instance.specs.declared.event.Event.TheVariants as events
use Rattle.am_instance.specs.declared.reply.Outcome.{Outcome}
use Rattle.am_member.specs.Lives.{IsOwnEvent}
use Rattle.am_peer_auth.specs.declared.seal.Lock.{Lock}
use Rattle.am_server.proofs.Steps.{made_on, nothing_made, one_made}
use Rattle.am_server.specs.Answered.{ByItself}
use Rattle.am_daemon.specs.Offers.{ForPeers, OnlyCounts}
use Rattle.am_daemon.specs.Sending.{FrameIsSentOn, IsWoken, MayTick}

-- ---- only frames that aren't sent are counted

pub counts_same : (old new : ForPeers) → new ≡ old → OnlyCounts old new
counts_same old new same = subst (λ (held : ForPeers). OnlyCounts old held) (sym same) (refl, refl)

pub counts_on : (old mid new : ForPeers) → OnlyCounts old mid → OnlyCounts mid new → OnlyCounts old new
counts_on old mid new first second = (second.0 ∙ ap (λ (held : ForPeers). record held { queue = new.queue }) first.0, second.1 ∙ first.1)

-- ---- the step of a frame

-- what is sent on, between what is the same
pub sent_between : (came : Option (ℕ × Frame)) (disk disk' : Option ℕ) (old new : InstanceState) (was was' is is' : ForPeers) → disk' ≡ disk → was' ≡ was → is' ≡ is →
    FrameIsSentOn came disk' old was' new is → FrameIsSentOn came disk old was new is'
sent_between came disk disk' old new was was' is is' same stood stands sent =
    subst (λ (d : Option ℕ). FrameIsSentOn came d old was new is') same (subst (λ (w : ForPeers). FrameIsSentOn came disk' old w new is') stood
    (subst (λ (i : ForPeers). FrameIsSentOn came disk' old was' new i) (sym stands) sent))

-- the step of a frame, whose queue is followed up under the same lock
pub frame_on : (place : ℕ) (frame : Frame) (disk : Option ℕ) (old new : InstanceState) (held : ForPeers) (queue : Sent) (lock : Option Lock) → lock ≡ held.lock →
    ((now : ℕ) × (answer : Result Outcome StepError) × IsStep old (events.Frame place frame) now answer new × IsSentOn disk answer held.queue queue) →
    FrameIsSentOn (Some (place, frame)) disk old held new (record held { queue = queue; lock = lock })
frame_on place frame disk old new held queue lock same sent = (sent.0, sent.1, sent.2, sent.3, ap (λ (l : Option Lock). record held { queue = queue; lock = l }) same)

-- ---- the steps that a member makes by itself

tick_made : (old new : InstanceState) → MayTick old new → ByItself old new
tick_made old new (inl same) = nothing_made IsOwnEvent old new same
tick_made old new (inr step) = one_made IsOwnEvent old new events.Tick step.0 step.1 tt step.2

sent_made : (came : Option (ℕ × Frame)) (disk : Option ℕ) (old new : InstanceState) (was is : ForPeers) → FrameIsSentOn came disk old was new is → ByItself old new
sent_made None disk old new was is sent = nothing_made IsOwnEvent old new sent.0
sent_made (Some came) disk old new was is sent = one_made IsOwnEvent old new (events.Frame came.0 came.1) sent.0 sent.1 tt sent.2

pub woken_made : (disk : Option ℕ) (old new : InstanceState) (was is : ForPeers) → IsWoken disk old was new is → ByItself old new
woken_made disk old new was is woken = made_on IsOwnEvent old woken.ticked new (tick_made old woken.ticked woken.tick)
    (sent_made woken.came disk woken.ticked new woken.before woken.after woken.sent)

-- what is due, and then what came
pub woken_by : (came : Option (ℕ × Frame)) (disk disk' : Option ℕ) (old mid new : InstanceState) (was before after is : ForPeers) → disk' ≡ disk → MayTick old mid → OnlyCounts was before →
    FrameIsSentOn came disk' mid before new after → OnlyCounts after is → IsWoken disk old was new is
woken_by came disk disk' old mid new was before after is same tick waits sent stays = record {
  ticked = mid;
  before = before;
  after = after;
  came = came;
  tick = tick;
  waits = waits;
  sent = subst (λ (d : Option ℕ). FrameIsSentOn came d mid before new after) same sent;
  stays = stays;
}
