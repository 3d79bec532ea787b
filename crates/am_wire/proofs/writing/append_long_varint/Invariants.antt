use Rattle.am_wire.proofs.Shortest.{HasPushed}
use Rattle.am_wire.proofs.writing.append_long_varint.Given as goal

abbrev pub invariant-loop-rest : goal.invariant-loop-rest
invariant-loop-rest l = HasPushed l.value l.fn.out.items l.out.items l.len l.rest

abbrev pub decreases-loop-rest : goal.decreases-loop-rest
decreases-loop-rest l = l.rest
