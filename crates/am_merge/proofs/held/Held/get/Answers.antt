use Rattle.std.proofs.Common.{sym}
use Rattle.am_merge.specs.Cursors.{place}
use Rattle.am_merge.specs.Stores.{versions}
use Rattle.am_merge.proofs.Keys.{key_order}
use Rattle.am_merge.proofs.Puts.{at_found, at_absent}
use Rattle.am_merge.proofs.held.Held.get.Goals as goal

pub returns-in-Ok : goal.returns-in-Ok
returns-in-Ok g c =
    rw (← c.self.view_is)
    (sym (at_found g.V.Version.seen g.V.Key.Ord.cmp (key_order g.met.V.Key.Ord.total g.met.V.Version.exact_keys) (versions c.self.inside.store) c.args.key.now (place c.self.inside.store.keys c.in-Ok.cursor) c.version_at.result.now c.self.invariant.0.keys.order c.in-Ok.ensures.found.place c.version_at.ensures))

pub returns-in-Err : goal.returns-in-Err
returns-in-Err g c =
    rw (← c.self.view_is)
    (sym (at_absent g.V.Version.seen g.V.Key.Ord.cmp (key_order g.met.V.Key.Ord.total g.met.V.Version.exact_keys) (versions c.self.inside.store) c.args.key.now (place c.self.inside.store.keys c.in-Err.field-0) c.in-Err.ensures.absent.gap))
