use Rattle.am_wire.proofs.Groups.{HasRead}
use Rattle.am_wire.proofs.varint.long_varint_from.Given as goal

abbrev pub invariant-loop-place : goal.invariant-loop-place
invariant-loop-place l = HasRead l.value l.scale l.place l.at l.bytes
