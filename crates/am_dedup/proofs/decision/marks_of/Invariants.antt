use Rattle.std.proofs.Common.{◌≡◌, ◌++◌, length}
use Rattle.am_dedup.proofs.Marks.{Marks}
use Rattle.am_dedup.proofs.decision.marks_of.Given as goal

abbrev pub invariant-loop-hash : goal.invariant-loop-hash
invariant-loop-hash l = record {
  size : length l.marks ≡ 2048;
  marked : Marks l.sorted l.marks l.yielded;
  walk : l.listed ≡ l.yielded ++ l.hash-iterator;
}
