use Rattle.std.proofs.Common.{Err, inr, refl, subst}
use Rattle.am_instance.specs.OneStep.{IsStep}
use Rattle.am_instance.specs.declared.event.Event.{Event}
use Rattle.am_api_decisions.proofs.Told.{says_line}
use Rattle.am_api_decisions.proofs.settling.decide_by_step.Goals as goal

pub returns-in-Err-clause-decided : goal.returns-in-Err-clause-decided
returns-in-Err-clause-decided c = inr (
  Err c.in-Err.error,
  subst (λ (event : Event). IsStep c.args.instance.now event c.args.timing.now (Err c.in-Err.error) c.step.new.self) c.in-Ok.ensures c.in-Err.ensures,
  says_line _ _ c.refusal.result.reply c.refusal.result.reply c.refused.ensures refl c.refusal.ensures.line,
)
