use Rattle.am_cluster.specs.BothStates.{log_state, silence_state}
use Rattle.am_cluster.proofs.Going.{others_stay, own_member_changes}
use Rattle.am_cluster.proofs.step_laws.only_the_member_changes.Goals as goal

pub returns-clause-silences : goal.returns-clause-silences
returns-clause-silences c = own_member_changes silence_state

pub returns-clause-log : goal.returns-clause-log
returns-clause-log c = own_member_changes log_state

pub returns-clause-other_silences : goal.returns-clause-other_silences
returns-clause-other_silences c = others_stay silence_state

pub returns-clause-other_logs : goal.returns-clause-other_logs
returns-clause-other_logs c = others_stay log_state
