use Rattle.am_cluster.proofs.Going.{members_go_on}
use Rattle.am_cluster.proofs.States.{of_log, of_silences}
use Rattle.am_cluster.proofs.step_laws.members_go_on.Goals as goal

pub returns-clause-silences : goal.returns-clause-silences
returns-clause-silences c = members_go_on of_silences

pub returns-clause-log : goal.returns-clause-log
returns-clause-log c = members_go_on of_log
