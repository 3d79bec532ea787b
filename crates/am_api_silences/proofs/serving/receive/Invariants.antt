use Rattle.std.proofs.Common.{◌-◌, length}
use Rattle.std.specs.Io.KnownBytes.{Consumes}
use Rattle.am_api_silences.specs.Serving.{IsJustRead}
use Rattle.am_api_silences.proofs.serving.receive.Given as goal

abbrev pub invariant-loop-read : goal.invariant-loop-read
invariant-loop-read g l = record {
  consumed : Consumes (g.R.Read.remaining l.fn.reader) (g.R.Read.remaining l.reader) l.bytes.items;
  just : IsJustRead l.bytes.items;
}

abbrev pub decreases-loop-read : goal.decreases-loop-read
decreases-loop-read g l = 1064960 - length l.bytes.items
