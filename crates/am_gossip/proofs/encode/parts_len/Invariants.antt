use Rattle.std.proofs.Common.{◌≡◌, ◌*◌, ◌^◌, ◌≤◌, length, take}
use Rattle.am_wire.specs.Writing.{writes_messages}
use Rattle.am_gossip.specs.Parts.{writes_part}
use Rattle.am_gossip.proofs.encode.parts_len.Given as goal

abbrev pub invariant-loop-part : goal.invariant-loop-part
invariant-loop-part l = record {
  exact : l.len ≡ length (writes_messages writes_part 1 (take l.part-index l.parts));
  bounded : l.len ≤ l.part-index * 2 ^ 64;
}
