use Rattle.std.proofs.Common.{◌≡◌, drop, map}
use Rattle.am_schedule.specs.Clusters.{names_in}
use Rattle.am_schedule.proofs.Names.{names_behind}
use Rattle.am_schedule.proofs.cluster.names.Given as goal

abbrev pub invariant-loop-word : goal.invariant-loop-word
invariant-loop-word l = names_behind l.names.items (map (λ w. w.now) (drop l.word-index l.words)) ≡ names_in (map (λ w. w.now) l.words)
