use Rattle.std.proofs.Common.{◌≡◌, drop}
use Rattle.serde_json.specs.View.{items_view}
use Rattle.am_api_decisions.specs.Hashes.{hashes_of}
use Rattle.am_api_decisions.proofs.Reading.{hashes_behind}
use Rattle.am_api_decisions.proofs.hashes.hashes_of.Given as goal

-- with those that are left, the hashes are all
abbrev pub invariant-loop-value : goal.invariant-loop-value
invariant-loop-value l = hashes_behind l.hashes.items (hashes_of (items_view (drop l.value-index l.values))) ≡ hashes_of (items_view l.values)
