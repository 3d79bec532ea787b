use Rattle.std.proofs.Common.{◌≡◌, drop}
use Rattle.serde_json.specs.View.{items_view}
use Rattle.am_api_decisions.specs.Messages.{are_objects}
use Rattle.am_api_decisions.proofs.message.are_objects.Given as goal

-- those so far are objects
abbrev pub invariant-loop-value : goal.invariant-loop-value
invariant-loop-value l = are_objects (items_view (drop l.value-index l.values)) ≡ are_objects (items_view l.values)
