use Rattle.am_merge.proofs.Keys.{key_order}
use Rattle.am_collect.proofs.Histories.{calm_shows}
use Rattle.am_collect.proofs.laws.calm_events_show_the_bare_set.Goals as goal

pub returns : goal.returns
returns g c start from events now key = calm_shows g.V.Version.seen g.V.Key.Ord.cmp (key_order g.met.V.Key.Ord.total g.met.V.Version.exact_keys) key start from events now
