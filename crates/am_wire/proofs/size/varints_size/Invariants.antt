use Rattle.std.proofs.Common.{◌≡◌, length, take}
use Rattle.std.specs.List.{flat_map}
use Rattle.am_wire.specs.Varint.{shortest}
use Rattle.am_wire.specs.Sizes.{counted}
use Rattle.am_wire.proofs.size.varints_size.Given as goal

abbrev pub invariant-loop-number : goal.invariant-loop-number
invariant-loop-number l = l.size ≡ counted (length (flat_map shortest (take l.number-index l.numbers)))
