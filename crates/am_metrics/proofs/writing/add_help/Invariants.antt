use Rattle.std.proofs.Common.{◌≡◌, ◌++◌, take}
use Rattle.std.specs.List.{flat_map}
use Rattle.am_metrics.specs.Expositions.{help_byte}
use Rattle.am_metrics.proofs.writing.add_help.Given as goal

-- what came of the elements so far stands behind what stood before
abbrev pub invariant-loop-byte : goal.invariant-loop-byte
invariant-loop-byte l = l.out.items ≡ l.initial.out.items ++ flat_map help_byte (take l.byte-index l.fn.text)
