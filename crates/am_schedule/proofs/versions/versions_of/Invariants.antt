use Rattle.std.proofs.Common.{◌≡◌, drop, map}
use Rattle.am_schedule.specs.Tables.{value_in}
use Rattle.am_schedule.specs.Lists.{values}
use Rattle.am_schedule.specs.Labels.{versions_in}
use Rattle.am_schedule.proofs.States.{states_behind}
use Rattle.am_schedule.proofs.versions.versions_of.Given as goal

abbrev pub invariant-loop-label : goal.invariant-loop-label
invariant-loop-label l = states_behind l.silences.items l.log.items (values (value_in l.versions) (map (λ w. w.now) (drop l.label-index l.labels))) ≡ versions_in (value_in l.versions) (map (λ w. w.now) l.labels)
