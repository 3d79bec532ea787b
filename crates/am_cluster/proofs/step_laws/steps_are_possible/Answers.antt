use Rattle.am_cluster.proofs.Happening.{steps_are_possible}
use Rattle.am_cluster.proofs.States.{of_log, of_silences}
use Rattle.am_cluster.proofs.step_laws.steps_are_possible.Goals as goal

pub returns-clause-silences : goal.returns-clause-silences
returns-clause-silences c = steps_are_possible of_silences

pub returns-clause-log : goal.returns-clause-log
returns-clause-log c = steps_are_possible of_log
