use Rattle.std.proofs.Common.{[], refl}
use Rattle.am_instance.proofs.Works.{answered, made_nothing}
use Rattle.am_instance.proofs.Arrivals.{delivers_none}
use Rattle.am_instance.proofs.instance.Instance.pull_from.Goals as goal

pub returns : goal.returns
returns c =
    let push = rw c.new-outbox.ensures at c.send_states.ensures in
    rw (← c.self.view_is) (answered _ _ _ c.args.now c.outcome.result [] refl (made_nothing _ c.outcome.ensures.made) (delivers_none c.args.now _) refl
    (c.send_states.new.self, push, c.outcome.ensures.sent) (c.outcome.ensures.reply, c.outcome.ensures.made))
