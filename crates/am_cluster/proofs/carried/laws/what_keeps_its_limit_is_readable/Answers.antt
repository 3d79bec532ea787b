use Rattle.am_cluster.proofs.RoundTrip.{delta_readable, entries_readable, silences_readable, whole_readable}
use Rattle.am_cluster.proofs.carried.laws.what_keeps_its_limit_is_readable.Goals as goal

pub returns-clause-delta : goal.returns-clause-delta
returns-clause-delta c = delta_readable

pub returns-clause-push : goal.returns-clause-push
returns-clause-push c = whole_readable

pub returns-clause-pull : goal.returns-clause-pull
returns-clause-pull c = whole_readable

pub returns-clause-silences : goal.returns-clause-silences
returns-clause-silences c = silences_readable

pub returns-clause-log : goal.returns-clause-log
returns-clause-log c = entries_readable
