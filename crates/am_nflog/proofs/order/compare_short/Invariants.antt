use Rattle.std.proofs.Common.{◌≡◌, ◌≤◌, length, take}
use Rattle.am_nflog.proofs.order.compare_short.Given as goal

abbrev pub invariant-loop-at : goal.invariant-loop-at
invariant-loop-at l = (take l.at l.a ≡ take l.at l.b) × (l.at ≤ length l.a) × (l.at ≤ length l.b)
