use Rattle.am_member.proofs.steps.make_step.Goals as goal

pub returns-clause-made : goal.returns-clause-made
returns-clause-made c = record {
  outcome = c.in_ok-outcome.outcome;
  step = c.in_ok-outcome.ensures;
  adds = rw (← c.is_tick-ticks.ensures c.args.sender) c.add.ensures;
}
