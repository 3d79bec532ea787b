use Rattle.std.proofs.Common.{◌∙◌, Some}
use Rattle.std.specs.Option.{option_copied}
use Rattle.am_report.proofs.Loops.{greatest_more}
use Rattle.am_report.proofs.groups.next_below.Goals as goal

pub loop-cursor-preserved : goal.loop-cursor-preserved
loop-cursor-preserved g c =
    let below = rw c.here.ensures at c.below.ensures in
    c.greater-best.ensures
    ∙ greatest_more g.V.Version.seen (Some c.args.above.now) c.args.sides.now c.loop-cursor.cursor-index c.cursor-item.result (option_copied c.loop-cursor.best)
    (option_copied c.below.result) c.loop-cursor-test.true c.loop-cursor.invariant
    (rw (← c.cursor-item.is) below)
