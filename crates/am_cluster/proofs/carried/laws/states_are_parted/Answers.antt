use Rattle.am_cluster.proofs.RoundTrip.{entries_parted, silences_parted}
use Rattle.am_cluster.proofs.Parting.{entries_append, silences_append}
use Rattle.am_cluster.proofs.carried.laws.states_are_parted.Goals as goal

pub returns-clause-silences : goal.returns-clause-silences
returns-clause-silences c = silences_parted

pub returns-clause-log : goal.returns-clause-log
returns-clause-log c = entries_parted

pub returns-clause-silences_then : goal.returns-clause-silences_then
returns-clause-silences_then c = silences_append

pub returns-clause-log_then : goal.returns-clause-log_then
returns-clause-log_then c = entries_append
