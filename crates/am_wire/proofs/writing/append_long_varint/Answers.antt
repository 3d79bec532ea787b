use Rattle.std.proofs.Common.{◌∙◌}
use Rattle.am_wire.proofs.Shortest.{goes_on_pushing, pushed_low, pushed_full}
use Rattle.am_wire.proofs.writing.append_long_varint.Goals as goal
use Rattle.am_wire.proofs.writing.append_long_varint.Goals.{then-loop-rest-test+else-len-lt9, else-loop-rest-test}

pub loop-rest-preserved : goal.loop-rest-preserved
loop-rest-preserved c =
    rw c.in_ok-push.ensures.items (goes_on_pushing _ _ _ _ _ c.loop-rest.invariant c.loop-rest-test.true c.if-len-lt9.true)

pub returns : goal.returns
returns c =
    elim c.loop-rest-test.branch [
      | then-loop-rest-test+else-len-lt9 w ↦
          record { ok = c.in_ok-push-2.ensures.items ∙ pushed_full _ _ _ _ _ c.loop-rest.invariant w.if-len-lt9.false }
      | else-loop-rest-test w ↦
          record { ok = c.in_ok-push-2.ensures.items ∙ pushed_low _ _ _ _ _ c.loop-rest.invariant w.loop-rest-test.false }
    ]
