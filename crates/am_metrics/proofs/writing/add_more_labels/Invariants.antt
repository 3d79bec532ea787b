use Rattle.std.proofs.Common.{◌≡◌, ◌++◌, take}
use Rattle.std.specs.List.{flat_map}
use Rattle.am_metrics.specs.Expositions.{next_label}
use Rattle.am_metrics.proofs.writing.add_more_labels.Given as goal

-- what came of the elements so far stands behind what stood before
abbrev pub invariant-loop-label : goal.invariant-loop-label
invariant-loop-label l = l.out.items ≡ l.initial.out.items ++ flat_map next_label (take l.label-index l.fn.labels)
