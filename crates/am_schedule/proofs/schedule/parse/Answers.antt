use Rattle.am_schedule.proofs.Runs.{at_start, behind_line}
use Rattle.am_schedule.proofs.schedule.parse.Goals as goal

pub lines-init : goal.lines-init
lines-init c = at_start c.args.text.now _ c.new-reader.ensures.stands c.new-reader.ensures.lines

pub lines-preserved : goal.lines-preserved
lines-preserved c =
    let said = c.in_default-take.ensures.taken c.lines.invariant.before c.lines.invariant.stands in
    behind_line _ _ _ _ _ _ _ said.0 c.lines.invariant c.in-Some.ensures.lines c.in-Some.ensures.shorter said.1 said.2 said.3
