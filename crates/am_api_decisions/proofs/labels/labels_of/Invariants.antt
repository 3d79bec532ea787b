use Rattle.std.proofs.Common.{◌≡◌}
use Rattle.serde_json.specs.View.{members_view}
use Rattle.am_api_decisions.specs.Messages.{labels_of}
use Rattle.am_api_decisions.proofs.Labelled.{labels_behind}
use Rattle.am_api_decisions.proofs.labels.labels_of.Given as goal

-- with those that are left, the labels are all
abbrev pub invariant-loop-name : goal.invariant-loop-name
invariant-loop-name l = labels_behind l.labels.items (labels_of (members_view l.name-iterator)) ≡ labels_of (members_view l.members.entries)
