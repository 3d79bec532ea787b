use Rattle.am_cluster.proofs.Lending.{values_delivered}
use Rattle.am_cluster.proofs.step_laws.values_are_delivered.Goals as goal

pub returns : goal.returns
returns c = values_delivered
