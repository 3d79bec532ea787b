use Rattle.std.proofs.Common.{◌≡◌}
use Rattle.am_gossip.specs.Parts.{parts_of, reads_parts}
use Rattle.am_gossip.proofs.Taking.{behind}
use Rattle.am_gossip.proofs.payload.read_full_state.Given as goal

abbrev pub invariant-loop-field : goal.invariant-loop-field
invariant-loop-field l = reads_parts l.bytes ≡ behind l.parts.items (parts_of l.field-iterator)
