use Rattle.std.proofs.Common.{take}
use Rattle.am_matcher.specs.Labels.{AreValuesOf}
use Rattle.am_matcher.proofs.labels.values_of.Given as goal

abbrev pub invariant-loop-label : goal.invariant-loop-label
invariant-loop-label l = AreValuesOf (take l.label-index l.labels) l.values
