use Rattle.std.proofs.Common.{◌≡◌, ◌+◌, drop}
use Rattle.std.specs.List.{sum_by}
use Rattle.am_api_decisions.specs.Recent.{label_size}
use Rattle.am_api_decisions.proofs.recent.fit.Given as goal

-- what is gone of the room is what the labels so far count as
abbrev pub invariant-loop-label : goal.invariant-loop-label
invariant-loop-label l = sum_by label_size (drop l.label-index l.labels) + l.room ≡ sum_by label_size l.labels + l.left
