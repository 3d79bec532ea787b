use Rattle.std.proofs.Common.{◌≡◌, drop, map}
use Rattle.am_memberlist.specs.Msgpack.{value_in}
use Rattle.am_memberlist.specs.Seen.{pair_of}
use Rattle.am_memberlist.proofs.answer.value_in.Given as goal

abbrev pub invariant-loop-pair : goal.invariant-loop-pair
invariant-loop-pair l = value_in l.key (map pair_of (drop l.pair-index l.pairs)) ≡ value_in l.key (map pair_of l.pairs)
