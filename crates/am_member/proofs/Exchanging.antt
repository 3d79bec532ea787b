-- The steps that the words of a connection ask for.
use Rattle.std.proofs.Common.{◌≡◌, ℕ, false, List, Option, None, Some, Result, Ok, Err, refl, sym, subst}
use Rattle.std.specs.Prelude.{option_map}
use Rattle.am_api_silences.specs.Answers.{WhenMade, IsRefusalAnswer, IsRequestAnswer}
use Rattle.am_api_silences.specs.declared.answering.PendingAnswer.{PendingAnswer}
use Rattle.am_gossip.specs.declared.frame.Frame.{Frame}
use Rattle.am_http.specs.declared.refusal.Refusal.{Refusal}
use Rattle.am_http.specs.declared.request.Read.{Read}
use Rattle.am_http.specs.declared.request.Read.TheVariants.{Whole, Refused}
use Rattle.am_http.specs.declared.request.Request.{Request}
use Rattle.am_instance.specs.InstanceStates.{InstanceState}
use Rattle.am_http.specs.declared.session.fault.SessionFault.{SessionFault}
use Rattle.am_http.specs.declared.session.fault.SessionFault.TheVariants as session_faults
use Rattle.am_http.specs.Sessions.{SessionPhase, name_of, over}
use Rattle.am_member.specs.declared.session_answer.StepEffects.{StepEffects}
use Rattle.am_member.specs.declared.session_answer.SessionAnswer.{SessionAnswer}
use Rattle.am_peers.specs.declared.fault.ConnectionFault.{ConnectionFault}
use Rattle.am_peers.specs.declared.fault.ConnectionFault.TheVariants.{Read as InRead, Write, TooLarge, Frame as InFrame, UnknownName, Step}
use Rattle.am_member.specs.Incoming.{SoFar, no_effects, so_far}
use Rattle.am_member.specs.Exchanging.{AreHeard, AreStepped, IsReadAnswer, fault_heard, left_at}

module _ (read : Read) (bits now : ℕ) (old new : InstanceState) (answer : SessionAnswer) (begun : PendingAnswer) (reply : answer.reply ≡ Some begun.making)
    (effects : answer.effects ≡ record { outbox = begun.outbox; ticked = false }) (no_fault : answer.fault ≡ None) where
  pub whole_answered : (request : Request) → read ≡ Whole request → WhenMade (λ answered. IsRequestAnswer old request bits now answered new) begun → IsReadAnswer read bits now old new answer
  whole_answered request is such = subst (λ (r : Read). IsReadAnswer r bits now old new answer) (sym is)
      (record { begun = begun; such = such; reply = reply; effects = effects; no_fault = no_fault })

  pub refused_answered : (refusal : Refusal) → read ≡ Refused refusal → WhenMade (λ answered. IsRefusalAnswer refusal old answered new) begun → IsReadAnswer read bits now old new answer
  refused_answered refusal is such = subst (λ (r : Read). IsReadAnswer r bits now old new answer) (sym is)
      (record { begun = begun; such = such; reply = reply; effects = effects; no_fault = no_fault })

-- a fault of the session itself is none at which the member stops it
pub heard_fault : (fault : Option SessionFault) (session_phase : SessionPhase) → left_at (option_map fault_heard fault) session_phase ≡ session_phase
heard_fault None session_phase = refl
heard_fault (Some session_faults.TooLarge) session_phase = refl
heard_fault (Some (session_faults.Frame error)) session_phase = refl

-- a step that isn't made stops it
pub stopped : (name : Option (List ℕ)) (now : ℕ) (frames : List Frame) (before after : SoFar) (stop : ConnectionFault) (session_phase : SessionPhase) →
    AreStepped name now frames before after (Err stop) → left_at (Some stop) session_phase ≡ over (name_of session_phase)
stopped name now frames before after UnknownName session_phase stepped = refl
stopped name now frames before after (Step error) session_phase stepped = refl
stopped name now frames before after (InRead at) session_phase stepped = absurd stepped
stopped name now frames before after (Write written) session_phase stepped = absurd stepped
stopped name now frames before after TooLarge session_phase stepped = absurd stepped
stopped name now frames before after (InFrame error) session_phase stepped = absurd stepped

module _ (name given : Option (List ℕ)) (now : ℕ) (frames : List Frame) (fault : Option SessionFault) (old : InstanceState) (before : StepEffects) (new : InstanceState) (answer : SessionAnswer)
    (same : given ≡ name) (none : before ≡ no_effects) (silent : answer.reply ≡ None) where
  -- the same of steps with the name of the session, from no effects on
  as_said : (result : Result Unit ConnectionFault) → AreStepped given now frames (so_far old before) (so_far new answer.effects) result →
      AreStepped name now frames (so_far old no_effects) (so_far new answer.effects) result
  as_said result stepped =
      subst (λ (e : StepEffects). AreStepped name now frames (so_far old e) (so_far new answer.effects) result) none
      (subst (λ (n : Option (List ℕ)). AreStepped n now frames (so_far old before) (so_far new answer.effects) result) same stepped)

  -- all steps were made
  pub heard_out : AreStepped given now frames (so_far old before) (so_far new answer.effects) (Ok tt) → answer.fault ≡ option_map fault_heard fault →
      AreHeard name now frames fault old new answer
  heard_out stepped is = record { silent = silent; steps = Ok tt; stepped = as_said (Ok tt) stepped; all = is; stop = tt }

  -- one wasn't
  pub heard_stop : (stop : ConnectionFault) → AreStepped given now frames (so_far old before) (so_far new answer.effects) (Err stop) → answer.fault ≡ Some stop →
      AreHeard name now frames fault old new answer
  heard_stop stop stepped is = record { silent = silent; steps = Err stop; stepped = as_said (Err stop) stepped; all = tt; stop = is }
