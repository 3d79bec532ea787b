use Rattle.std.proofs.Common.{◌∙◌}
use Rattle.std.proofs.Math.ListN.{length-set}
use Rattle.am_dedup.proofs.Marks.{met_more}
use Rattle.am_dedup.proofs.decision.remainders_of.Goals as goal

pub loop-place-preserved : goal.loop-place-preserved
loop-place-preserved c = (
  length-set _ _ _ ∙ c.loop-place.invariant.0,
  met_more c.args.hashes.now c.loop-place.met c.loop-place.place c.loop-place.invariant.0 c.loop-place.invariant.1,
)
