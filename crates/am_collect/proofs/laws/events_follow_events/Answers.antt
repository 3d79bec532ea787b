use Rattle.am_collect.proofs.Runs.{IsLeftBy-append}
use Rattle.am_collect.proofs.laws.events_follow_events.Goals as goal

pub returns : goal.returns
returns g c = IsLeftBy-append g.V.Version.seen g.V.Key.Ord.cmp
