use Rattle.am_merge.proofs.Joins.{join_same}
use Rattle.am_merge.proofs.laws.join_is_idempotent.Goals as goal

pub returns : goal.returns
returns g c = join_same g.V.Version.seen g.V.Key.Ord.cmp
