use Rattle.std.proofs.Common.{◌≡◌, take}
use Rattle.am_api_decisions.proofs.alerts.copied_labels.Given as goal

-- the labels so far are copied
abbrev pub invariant-loop-label : goal.invariant-loop-label
invariant-loop-label l = l.copies.items ≡ take l.label-index l.labels
