use Rattle.am_matcher.proofs.Keepings.{steps_all, steps_more}
use Rattle.am_matcher.proofs.entries.long_steps.Goals as goal

pub loop-entry-preserved : goal.loop-entry-preserved
loop-entry-preserved c = steps_more c.args.length c.args.entries.now c.loop-entry.entry-index c.entry-item.result c.loop-entry.steps c.long_steps.result _ c.loop-entry-test.true c.entry-item.is c.long_steps.ensures c.saturating_add-steps.ensures c.loop-entry.invariant

pub returns : goal.returns
returns c = steps_all c.args.length c.args.entries.now c.loop-entry.entry-index c.loop-entry.steps c.loop-entry-test.false c.loop-entry.auto.entry-index-end c.loop-entry.invariant
