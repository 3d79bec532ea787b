use Rattle.std.proofs.Common.{◌≡◌, ◌++◌, take}
use Rattle.am_wire.specs.Writing.{writes_messages}
use Rattle.am_gossip.specs.Parts.{writes_part}
use Rattle.am_gossip.proofs.encode.push_parts.Given as goal

abbrev pub invariant-loop-part : goal.invariant-loop-part
invariant-loop-part l = l.out.items ≡ l.fn.out.items ++ writes_messages writes_part 1 (take l.part-index l.parts)
