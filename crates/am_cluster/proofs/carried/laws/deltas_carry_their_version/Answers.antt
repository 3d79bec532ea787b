use Rattle.am_cluster.proofs.RoundTrip.{delta_carries, delta_rows}
use Rattle.am_cluster.proofs.carried.laws.deltas_carry_their_version.Goals as goal

pub returns-clause-rows : goal.returns-clause-rows
returns-clause-rows c = delta_rows

pub returns-clause-carried : goal.returns-clause-carried
returns-clause-carried c = delta_carries
