use Rattle.std.proofs.Common.{◌≡◌, ◌-◌, map}
use Rattle.am_memberlist.specs.Msgpack.{pairs_at}
use Rattle.am_memberlist.specs.Seen.{pair_of}
use Rattle.am_memberlist.proofs.Maps.{with_pairs}
use Rattle.am_memberlist.proofs.msgpack.map_at.Given as goal

abbrev pub invariant-loop : goal.invariant-loop
invariant-loop l = with_pairs (map pair_of l.pairs.items) (pairs_at (l.count - l.counter) l.rest) ≡ pairs_at l.count l.initial.rest
