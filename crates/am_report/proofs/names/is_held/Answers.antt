use Rattle.std.proofs.Common.{refl}
use Rattle.am_report.proofs.Loops.{none_more, one_here}
use Rattle.am_report.proofs.names.is_held.Goals as goal

pub loop-cursor-preserved : goal.loop-cursor-preserved
loop-cursor-preserved g c =
    none_more _ c.args.sides.now c.loop-cursor.cursor-index c.cursor-item.result c.loop-cursor-test.true c.loop-cursor.invariant
    (rw (← c.cursor-item.is, ← c.here.ensures, ← c.if-is_same.ensures) refl)

pub returns-then-is_same : goal.returns-then-is_same
returns-then-is_same g c =
    one_here _ c.args.sides.now c.loop-cursor.cursor-index c.cursor-item.result c.loop-cursor-test.true
    (rw (← c.cursor-item.is, ← c.here.ensures, ← c.if-is_same.ensures) refl)
