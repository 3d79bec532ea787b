use Rattle.std.proofs.Common.{length}
use Rattle.am_wire.proofs.Unpacking.{HasUnpacked}
use Rattle.am_wire.proofs.lists.unpack.Given as goal

abbrev pub invariant-loop-rest : goal.invariant-loop-rest
invariant-loop-rest l = HasUnpacked l.at l.fn.numbers.items l.numbers.items l.bytes l.rest

abbrev pub decreases-loop-rest : goal.decreases-loop-rest
decreases-loop-rest l = length l.rest
