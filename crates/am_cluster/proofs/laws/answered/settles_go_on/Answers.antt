use Rattle.am_cluster.proofs.Extending.{settle_extends}
use Rattle.am_cluster.proofs.laws.answered.settles_go_on.Goals as goal

pub returns : goal.returns
returns c = λ old new now line result is. settle_extends now line old new result is
