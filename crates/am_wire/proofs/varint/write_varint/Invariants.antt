use Rattle.am_wire.proofs.Shortest.{HasWritten}
use Rattle.am_wire.proofs.varint.write_varint.Given as goal

abbrev pub invariant-loop-rest : goal.invariant-loop-rest
invariant-loop-rest l = HasWritten l.value l.bytes l.len l.rest

abbrev pub decreases-loop-rest : goal.decreases-loop-rest
decreases-loop-rest l = l.rest
