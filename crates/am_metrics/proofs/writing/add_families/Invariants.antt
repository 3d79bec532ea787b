use Rattle.std.proofs.Common.{◌≡◌, ◌++◌, take}
use Rattle.std.specs.List.{flat_map}
use Rattle.am_metrics.specs.Expositions.{family_text}
use Rattle.am_metrics.proofs.writing.add_families.Given as goal

-- what came of the elements so far stands behind what stood before
abbrev pub invariant-loop-family : goal.invariant-loop-family
invariant-loop-family l = l.out.items ≡ l.initial.out.items ++ flat_map family_text (take l.family-index l.fn.families)
