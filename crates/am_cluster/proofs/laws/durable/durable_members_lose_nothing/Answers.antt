use Rattle.am_cluster.proofs.DurableShown.{lose_nothing}
use Rattle.am_cluster.proofs.OneOfBoth.{of_log, of_silences}
use Rattle.am_cluster.proofs.laws.durable.durable_members_lose_nothing.Goals as goal

pub returns-clause-silences : goal.returns-clause-silences
returns-clause-silences c = lose_nothing of_silences

pub returns-clause-log : goal.returns-clause-log
returns-clause-log c = lose_nothing of_log
