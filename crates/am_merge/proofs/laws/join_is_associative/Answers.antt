use Rattle.am_merge.proofs.Joins.{join_left, join_right}
use Rattle.am_merge.proofs.laws.join_is_associative.Goals as goal

pub returns : goal.returns
returns g c a b d ab bc joined first second = (
  join_right g.V.Version.seen g.V.Key.Ord.cmp a b d ab bc joined first second,
  join_left g.V.Version.seen g.V.Key.Ord.cmp a b d ab bc joined first second,
)
