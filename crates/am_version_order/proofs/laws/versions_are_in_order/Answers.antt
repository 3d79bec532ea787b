use Rattle.am_version_order.proofs.Ranks.{rank_total, rank_exact}
use Rattle.am_version_order.proofs.laws.versions_are_in_order.Goals as goal

pub returns-clause-total : goal.returns-clause-total
returns-clause-total g c = rank_total

pub returns-clause-exact : goal.returns-clause-exact
returns-clause-exact g c = rank_exact
