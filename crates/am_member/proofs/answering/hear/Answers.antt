use Rattle.std.proofs.Common.{sym, ◌∙◌, refl}
use Rattle.am_member.proofs.Exchanging.{heard_out, heard_stop, heard_fault, stopped}
use Rattle.am_member.proofs.answering.hear.Goals as goal

pub returns-in-Ok-clause-heard : goal.returns-in-Ok-clause-heard
returns-in-Ok-clause-heard c =
    heard_out _ _ _ _ _ _ _ _ _ c.name.ensures c.nothing-exchanged.ensures.effects c.nothing-exchanged.ensures.reply c.in-Ok.ensures c.fault_heard-exchanged.ensures

pub returns-in-Ok-clause-session : goal.returns-in-Ok-clause-session
returns-in-Ok-clause-session c = rw c.fault_heard-exchanged.ensures (sym (heard_fault c.args.fault c.args.session.now))

pub returns-in-Err-clause-heard : goal.returns-in-Err-clause-heard
returns-in-Err-clause-heard c = heard_stop _ _ _ _ _ _ _ _ _ c.name.ensures c.nothing-exchanged.ensures.effects c.nothing-exchanged.ensures.reply _ c.in-Err.ensures refl

pub returns-in-Err-clause-session : goal.returns-in-Err-clause-session
returns-in-Err-clause-session c = c.stop.ensures ∙ sym (stopped _ _ _ _ _ _ c.args.session.now c.in-Err.ensures)
