use Rattle.std.proofs.Common.{◌≡◌, map, take}
use Rattle.am_cluster.specs.LineEvents.{label_of}
use Rattle.am_cluster.proofs.line_events.labels_of.Given as goal

abbrev pub invariant-loop-pair : goal.invariant-loop-pair
invariant-loop-pair l = l.labels.items ≡ map label_of (take l.pair-index l.pairs)
