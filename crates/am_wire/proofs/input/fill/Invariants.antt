use Rattle.std.proofs.Common.{length, ◌-◌, ◌<◌}
use Rattle.am_wire.specs.InputReading.{HasGrown}
use Rattle.am_wire.proofs.input.fill.Given as goal

abbrev pub invariant-loop-bytes : goal.invariant-loop-bytes
invariant-loop-bytes g l =
    HasGrown (g.R.Read.remaining l.fn.reader) (g.R.Read.remaining l.reader) l.fn.bytes.items l.bytes.items × (length l.bytes.items < l.end)

abbrev pub decreases-loop-bytes : goal.decreases-loop-bytes
decreases-loop-bytes g l = l.end - length l.bytes.items
