use Rattle.am_runs.proofs.Settled.{joined_already}
use Rattle.am_runs.proofs.laws.settled.Goals as goal

pub returns : goal.returns
returns g c members place maps key each within = joined_already g.V.Version.seen g.V.Version.is_value g.met.V.Version.exact members place maps key each within
