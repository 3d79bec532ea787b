use Rattle.am_cluster.specs.BothStates.{log_state, silence_state}
use Rattle.am_cluster.proofs.Lending.{frames_come_from_flights}
use Rattle.am_cluster.proofs.step_laws.frames_come_from_their_flights.Goals as goal

pub returns-clause-silences : goal.returns-clause-silences
returns-clause-silences c = frames_come_from_flights silence_state

pub returns-clause-log : goal.returns-clause-log
returns-clause-log c = frames_come_from_flights log_state
