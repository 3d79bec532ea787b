use Rattle.am_wire.proofs.Shortest.{goes_on_writing, ends_low, ends_full}
use Rattle.am_wire.proofs.varint.write_varint.Goals as goal
use Rattle.am_wire.proofs.varint.write_varint.Goals.{then-loop-rest-test+else-len-lt9, else-loop-rest-test}

pub loop-rest-preserved : goal.loop-rest-preserved
loop-rest-preserved c = goes_on_writing _ _ _ _ c.loop-rest.invariant c.loop-rest-test.true c.if-len-lt9.true

pub returns : goal.returns
returns c =
    elim c.loop-rest-test.branch [
      | then-loop-rest-test+else-len-lt9 w ↦ ends_full _ _ _ _ c.loop-rest.invariant w.if-len-lt9.false
      | else-loop-rest-test w ↦ ends_low _ _ _ _ c.loop-rest.invariant w.loop-rest-test.false
    ]
