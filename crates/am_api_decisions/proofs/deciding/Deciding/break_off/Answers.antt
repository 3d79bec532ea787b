use Rattle.am_api_decisions.specs.declared.settling.Judgement.TheVariants.{Partial}
use Rattle.am_api_decisions.proofs.Same.{settled_same}
use Rattle.am_api_decisions.proofs.deciding.Deciding.break_off.Goals as goal

pub returns-in-Ok-clause-same : goal.returns-in-Ok-clause-same
returns-in-Ok-clause-same c =
    settled_same Partial c.args.timing c.self.inside.group c.add_unasked.new.self c.args.instance.now c.settle.new.instance c.settle.result.reply c.settle.ensures.settled
