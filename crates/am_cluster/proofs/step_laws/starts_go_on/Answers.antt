use Rattle.am_cluster.specs.BothStates.{log_state, silence_state}
use Rattle.am_cluster.proofs.Lending.{starts_go_on}
use Rattle.am_cluster.proofs.step_laws.starts_go_on.Goals as goal

pub returns-clause-silences : goal.returns-clause-silences
returns-clause-silences c = starts_go_on silence_state

pub returns-clause-log : goal.returns-clause-log
returns-clause-log c = starts_go_on log_state
