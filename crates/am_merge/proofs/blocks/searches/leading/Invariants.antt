use Rattle.std.proofs.Common.{◌≡◌, ◌≢◌, ◌-◌, ◌<◌, ◌≤◌, [], length, get_or}
use Rattle.std.specs.declared.cmp.Ordering.TheVariants.{Greater}
use Rattle.am_merge.proofs.blocks.searches.leading.Given as goal

-- the block before `low` begins at or before what is looked for, that of `high` behind it
abbrev pub invariant-loop-low : goal.invariant-loop-low
invariant-loop-low g l = record {
  order : l.low ≤ l.high;
  within : l.high ≤ length l.blocks;
  before : (d : g.row.T.Denot) → 0 < l.low → g.P.Probe.order l.probe (get_or (get_or l.blocks (l.low - 1) []) 0 d) ≢ Greater;
  behind : (d : g.row.T.Denot) → l.high < length l.blocks → g.P.Probe.order l.probe (get_or (get_or l.blocks l.high []) 0 d) ≡ Greater;
}

abbrev pub decreases-loop-low : goal.decreases-loop-low
decreases-loop-low g l = l.high - l.low
