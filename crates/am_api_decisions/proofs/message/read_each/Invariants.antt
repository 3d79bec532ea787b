use Rattle.std.proofs.Common.{◌≡◌, drop}
use Rattle.std.specs.Prelude.{All}
use Rattle.serde_json.specs.View.{items_view}
use Rattle.am_api_decisions.specs.Steps.{each}
use Rattle.am_api_decisions.specs.Messages.{IsInOrder, alert_of}
use Rattle.am_api_decisions.proofs.Reading.{behind}
use Rattle.am_api_decisions.proofs.message.read_each.Given as goal

-- with those that are left, the alerts are all
abbrev pub invariant-loop-value : goal.invariant-loop-value
invariant-loop-value l = record {
  read : behind l.alerts.items (each alert_of (items_view (drop l.value-index l.values))) ≡ each alert_of (items_view l.values);
  in_order : All IsInOrder l.alerts.items;
}
