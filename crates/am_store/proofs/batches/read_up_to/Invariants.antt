use Rattle.std.proofs.Common.{◌≤◌, ◌-◌, length}
use Rattle.std.specs.Io.KnownBytes.{Consumes}
use Rattle.am_store.proofs.batches.read_up_to.Given as goal

abbrev pub invariant-loop-room : goal.invariant-loop-room
invariant-loop-room g l = record {
  few : length l.bytes.items ≤ l.wanted;
  read : Consumes (g.R.Read.remaining l.fn.reader) (g.R.Read.remaining l.reader) l.bytes.items;
}

abbrev pub decreases-loop-room : goal.decreases-loop-room
decreases-loop-room g l = l.wanted - length l.bytes.items
