use Rattle.am_schedule.specs.StepLines.{line_in}
use Rattle.am_schedule.proofs.line.line.Goals as goal

pub returns-in-At : goal.returns-in-At
unfolding line_in
returns-in-At c = record { value = rw c.in-At.is c.at_line.ensures.value; formed = rw c.in-At.is c.at_line.ensures.formed }
