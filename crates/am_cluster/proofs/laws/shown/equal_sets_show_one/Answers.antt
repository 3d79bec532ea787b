use Rattle.am_collect.proofs.Greatest.{same_view}
use Rattle.am_cluster.proofs.laws.shown.equal_sets_show_one.Goals as goal

pub returns : goal.returns
returns g c set other now key one two same values here there =
    same_view g.V.Version.seen g.V.Version.is_value g.met.V.Version.exact set other now key one two same values here there
