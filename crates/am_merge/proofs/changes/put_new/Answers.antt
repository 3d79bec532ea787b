use Rattle.std.proofs.Common.{◌≡◌, ◌+◌, sym, ◌∙◌, subst}
use Rattle.std.specs.Prelude.{insert}
use Rattle.am_merge.specs.Cursors.{place, place_in}
use Rattle.am_merge.specs.Stores.{versions}
use Rattle.am_merge.specs.Takings.{IsPut}
use Rattle.am_merge.proofs.Keys.{key_order}
use Rattle.am_merge.proofs.Puts.{place_between}
use Rattle.am_merge.proofs.changes.put_new.Goals as goal

pub returns-in_err-reserve-clause-new : goal.returns-in_err-reserve-clause-new
returns-in_err-reserve-clause-new g c =
    (place_between g.V.Version.seen g.V.Key.Ord.cmp (key_order g.met.V.Key.Ord.total g.met.V.Version.exact_keys) (versions c.args.store.now) (place c.args.store.now.keys c.args.cursor) c.args.version c.requires.store.keys.order c.requires.cursor.gap).1

pub returns-clause-put : goal.returns-clause-put
returns-clause-put g c =
    let added : versions c.add.new.store ≡ insert (versions c.args.store.now) (place c.args.store.now.keys c.args.cursor) c.args.version = c.add.ensures.added ∙ (λ i. insert (c.reserve.ensures.versions i) (place_in (c.reserve.ensures.same.keys i) c.args.cursor) c.args.version) in
    subst (IsPut g.V.Version.seen g.V.Key.Ord.cmp (versions c.args.store.now) c.args.version) (sym added)
    (place_between g.V.Version.seen g.V.Key.Ord.cmp (key_order g.met.V.Key.Ord.total g.met.V.Version.exact_keys) (versions c.args.store.now) (place c.args.store.now.keys c.args.cursor) c.args.version c.requires.store.keys.order c.requires.cursor.gap).0

pub returns-clause-new : goal.returns-clause-new
returns-clause-new g c =
    (place_between g.V.Version.seen g.V.Key.Ord.cmp (key_order g.met.V.Key.Ord.total g.met.V.Version.exact_keys) (versions c.args.store.now) (place c.args.store.now.keys c.args.cursor) c.args.version c.requires.store.keys.order c.requires.cursor.gap).1

pub returns-clause-added : goal.returns-clause-added
returns-clause-added g c = c.add.ensures.added ∙ (λ i. insert (c.reserve.ensures.versions i) (place_in (c.reserve.ensures.same.keys i) c.args.cursor) c.args.version)

pub returns-clause-room : goal.returns-clause-room
returns-clause-room g c = λ n m had. c.add.ensures.room n m (c.reserve.ensures.kept (n + 1) (m + 1) had)
