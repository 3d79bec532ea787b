use Rattle.std.proofs.Common.{◌∙◌, None}
use Rattle.std.specs.Option.{option_copied}
use Rattle.am_report.proofs.Loops.{greatest_more, unbounded}
use Rattle.am_report.proofs.groups.greatest_of.Goals as goal

pub loop-cursor-preserved : goal.loop-cursor-preserved
loop-cursor-preserved g c =
    let here = c.here.ensures ∙ unbounded g.V.Version.seen c.cursor-item.result.here in
    c.greater-best.ensures
    ∙ greatest_more g.V.Version.seen None c.args.sides.now c.loop-cursor.cursor-index c.cursor-item.result (option_copied c.loop-cursor.best) (option_copied c.here.result)
    c.loop-cursor-test.true c.loop-cursor.invariant
    (rw (← c.cursor-item.is) here)
