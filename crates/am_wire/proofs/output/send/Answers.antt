use Rattle.am_wire.proofs.Writes.{write_more}
use Rattle.am_wire.proofs.output.send.Goals as goal

pub loop-written-preserved : goal.loop-written-preserved
loop-written-preserved g c =
    rw (c.unwrap_or-taken.ensures) (write_more _ _ _ _ _ c.write.result c.loop-written.invariant.0 c.loop-written.invariant.1 c.write.ensures.bound c.write.ensures.bytes)
