use Rattle.std.proofs.Common.{add-one, rules}
use Rattle.am_api_decisions.specs.Xxh64.{add_lanes}
use Rattle.am_api_decisions.proofs.xxhash.add_lanes.Goals as goal

pub loop-number-init : goal.loop-number-init
unfolding add_lanes
loop-number-init c = search rules

pub loop-number-preserved : goal.loop-number-preserved
unfolding add_lanes
loop-number-preserved c = rw (add-one, ← c.loop-number.invariant, ← c.lane_at.ensures) c.add_lane-hash.ensures
