use Rattle.std.proofs.Common.{◌∙◌, length-take, sym, arith}
use Rattle.am_connection.proofs.Hearing.{heard_more}
use Rattle.am_connection.proofs.conversing.converse.Goals as goal

pub loop-size-preserved : goal.loop-size-preserved
loop-size-preserved g c =
    heard_more _ _ _ _ _ _ _ _ _ _ c.in-Ok.size c.hear-fault.result c.loop-size.invariant c.in-Ok.ensures.bytes.0 (omega (arith, c.in-Ok.ensures.bound, length-take c.in-Ok.size c.read.new.buf)) c.hear-fault.ensures
    (sym c.is_some.ensures ∙ c.if-is_some.false) c.if-count-gt-MOST_BYTES.false
