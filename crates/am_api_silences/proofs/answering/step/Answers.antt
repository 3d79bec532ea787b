use Rattle.am_api_silences.proofs.Parting.{parted_made}
use Rattle.am_api_silences.proofs.answering.step.Goals as goal

pub returns-in-Ok : goal.returns-in-Ok
returns-in-Ok c = λ reply made.
    parted_made c.args.event c.take_filters-bare.result.0 c.take_filters-bare.result.1.items c.args.instance.now c.step.new.self c.args.now c.take_filters-bare.ensures c.in-Ok.outcome reply
    c.done.result.outbox c.in-Ok.ensures (c.done.ensures.reply reply made) c.done.ensures.sent
