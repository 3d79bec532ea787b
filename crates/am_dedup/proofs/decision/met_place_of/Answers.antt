use Rattle.am_dedup.proofs.Marks.{unmet}
use Rattle.am_dedup.proofs.decision.met_place_of.Goals as goal

pub returns-then-behind-eq0 : goal.returns-then-behind-eq0
returns-then-behind-eq0 c = unmet c.args.sorted.now c.args.met.now c.args.hash c.requires.met c.if-behind-eq0.true
