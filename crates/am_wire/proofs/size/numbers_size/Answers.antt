use Rattle.std.specs.List.{flat_map}
use Rattle.am_wire.specs.Varint.{shortest}
use Rattle.am_wire.proofs.Unpacking.{packed_filled}
use Rattle.am_wire.proofs.size.numbers_size.Goals as goal

pub returns : goal.returns
returns c = rw (packed_filled c.args.numbers.now c.if-is_empty.ensures) (c.delimited_size.ensures (flat_map shortest c.args.numbers.now) c.varints_size.ensures)
