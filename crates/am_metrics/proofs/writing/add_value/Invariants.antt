use Rattle.std.proofs.Common.{◌≡◌, ◌++◌, take}
use Rattle.std.specs.List.{flat_map}
use Rattle.am_metrics.specs.Expositions.{value_byte}
use Rattle.am_metrics.proofs.writing.add_value.Given as goal

-- what came of the elements so far stands behind what stood before
abbrev pub invariant-loop-byte : goal.invariant-loop-byte
invariant-loop-byte l = l.out.items ≡ l.initial.out.items ++ flat_map value_byte (take l.byte-index l.fn.text)
