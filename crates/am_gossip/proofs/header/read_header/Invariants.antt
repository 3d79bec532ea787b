use Rattle.std.proofs.Common.{ℕ, List, ◌++◌, take}
use Rattle.am_gossip.specs.HeaderProgresses.{IsAt}
use Rattle.am_gossip.proofs.header.read_header.Given as goal

abbrev pub invariant-loop-byte : goal.invariant-loop-byte
invariant-loop-byte l = (before : List ℕ) → IsAt l.fn.progress before → IsAt l.progress (before ++ take l.byte-index l.bytes)
