use Rattle.std.proofs.Common.{add-one, rules}
use Rattle.am_api_decisions.specs.Xxh64.{stripes}
use Rattle.am_api_decisions.proofs.xxhash.stripes.Goals as goal

pub loop-number-init : goal.loop-number-init
unfolding stripes
loop-number-init c = search rules

pub loop-number-preserved : goal.loop-number-preserved
unfolding stripes
loop-number-preserved c = rw (add-one, ← c.loop-number.invariant) c.add_stripe.ensures
