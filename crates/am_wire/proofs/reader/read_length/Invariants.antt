use Rattle.std.proofs.Common.{◌-◌}
use Rattle.am_wire.proofs.ReaderLemmas.{HasPart}
use Rattle.am_wire.proofs.reader.read_length.Given as goal

abbrev pub invariant-loop-byte : goal.invariant-loop-byte
invariant-loop-byte g l = HasPart l.limit l.at l.len l.text (g.R.Read.remaining l.fn.reader) (g.R.Read.remaining l.reader)

abbrev pub decreases-loop-byte : goal.decreases-loop-byte
decreases-loop-byte g l = 10 - l.len
