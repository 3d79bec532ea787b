use Rattle.std.proofs.Common.{◌≤◌, ◌-◌, length, take}
use Rattle.std.specs.Io.KnownBytes.{Consumes}
use Rattle.am_wire.proofs.reader.read_up_to.Given as goal

abbrev pub invariant-loop-len : goal.invariant-loop-len
invariant-loop-len g l = record {
  held : l.len ≤ length l.bytes.items;
  most : length l.bytes.items ≤ l.wanted;
  read : Consumes (g.R.Read.remaining l.fn.reader) (g.R.Read.remaining l.reader) (take l.len l.bytes.items);
}

abbrev pub decreases-loop-len : goal.decreases-loop-len
decreases-loop-len g l = l.wanted - l.len
