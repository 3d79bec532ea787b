-- Steps in which no version came and no frame was sent.
use Rattle.am_runs.specs.Steps.{RunStep}
use Rattle.am_runs.specs.Steps.RunStep.{Ticked, Back, Refused, Saved, Stopped, Started}
use Rattle.am_cluster.specs.declared.journal.mark.Mark.{Mark}
use Rattle.am_cluster.specs.declared.journal.mark.Mark.TheVariants as marks

-- the step of a mark in a run of versions of any type
abbrev pub step_of_mark : {X : Type 0} → Mark → RunStep X
step_of_mark (marks.Ticked place now) = Ticked place now
step_of_mark (marks.Back place now) = Back place now
step_of_mark (marks.Refused now) = Refused now
step_of_mark (marks.Saved place) = Saved place
step_of_mark (marks.Stopped place) = Stopped place
step_of_mark (marks.Started place now) = Started place now
