-- The contract of a step, for contracts that speak of several.
use Rattle.std.specs.Prelude.{◌≡◌, ℕ, true, OnOk, IfOk, IfErr, Result}
use Rattle.am_instance.specs.declared.event.Event.{Event}
use Rattle.am_gossip.specs.declared.refusals.StepError.{StepError}
use Rattle.am_instance.specs.declared.reply.Outcome.{Outcome}
use Rattle.am_instance.specs.Deliveries.{to_silences, to_log}
use Rattle.am_instance.specs.InstanceStates.{InstanceState, HoldsWhole, AreSilencesLeftBy, IsLogLeftBy, kept_silences, kept_log}
use Rattle.am_instance.specs.Sendings.{Sends, nothing_sent, sent_by}
use Rattle.am_instance.specs.Replies.{IsReply}
use Rattle.am_instance.specs.Steps.{AreSwept, IsAccepted, IsRefusal, IsRefused, collects, step_events, wanted}

-- one step, as `Instance::step` makes it
pub record IsStep (old : InstanceState) (event : Event) (now : ℕ) (result : Result Outcome StepError) (new : InstanceState) : Type 0 where
  -- it is answered only if no cause of a refusal applies, memory aside
  pub accepted : OnOk result (IsAccepted old event now)
  -- it is refused for the first cause that applies
  pub refused : IfErr result (IsRefusal old event now)
  -- a refusal for a cause other than memory changes nothing
  pub unchanged : IsRefused result → new ≡ old
  -- the configuration stays
  pub config : new.config ≡ old.config
  -- to the silences it is its moment followed by each version that it delivers, in order; or a collection
  pub silences : AreSilencesLeftBy (kept_silences old) (step_events to_silences old.config.unknown event now result) (kept_silences new)
  -- the same holds for the log
  pub log : IsLogLeftBy (kept_log old) (step_events to_log old.config.unknown event now result) (kept_log new)
  -- if nothing of the held versions is lost when they are read again, the same holds afterwards
  pub kept : HoldsWhole old → HoldsWhole new
  -- a collection leaves exactly what is live of both
  pub swept : OnOk result (collects event ≡ true → AreSwept now old new)
  -- each wanted frame is handed out, or counted under the cause why it isn't
  pub sent : IfOk result (λ outcome. Sends (wanted old event now outcome.made new) nothing_sent (sent_by outcome))
  -- the reply and the versions made here are those for the event
  pub reply : IfOk result (λ outcome. IsReply old event now outcome.reply outcome.made)
