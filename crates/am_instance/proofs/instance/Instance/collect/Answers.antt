use Rattle.std.proofs.Common.{refl, ◌∙◌}
use Rattle.am_instance.proofs.Works.{collected_work}
use Rattle.am_instance.proofs.instance.Instance.collect.Goals as goal

pub returns-clause-tick : goal.returns-clause-tick
returns-clause-tick c =
    rw (← c.self.view_is) (collected_work _ _ _ c.args.now c.outcome.result refl refl refl refl refl refl (record { silences = c.sweep.ensures.silences; log = c.sweep.ensures.log })
    c.sweep.ensures.each_silence c.sweep.ensures.each_entry (c.outcome.ensures.sent ∙ c.new.ensures) c.outcome.ensures.made (c.outcome.ensures.reply, c.outcome.ensures.made))

pub returns-clause-frame : goal.returns-clause-frame
returns-clause-frame c = λ sender.
    rw (← c.self.view_is) (collected_work _ _ _ c.args.now c.outcome.result refl refl refl refl refl refl (record { silences = c.sweep.ensures.silences; log = c.sweep.ensures.log })
    c.sweep.ensures.each_silence c.sweep.ensures.each_entry (c.outcome.ensures.sent ∙ c.new.ensures) c.outcome.ensures.made (c.outcome.ensures.reply, c.outcome.ensures.made))
