use Rattle.std.proofs.Common.{◌≡◌, sym, ◌∙◌, subst}
use Rattle.std.specs.Prelude.{insert}
use Rattle.am_merge.specs.Cursors.{place, place_in}
use Rattle.am_merge.specs.Stores.{versions}
use Rattle.am_merge.specs.Takings.{IsPut}
use Rattle.am_merge.proofs.Keys.{key_order}
use Rattle.am_merge.proofs.Puts.{place_between}
use Rattle.am_merge.proofs.bulk.add_by_key.Goals as goal

pub returns-clause-put : goal.returns-clause-put
returns-clause-put g c =
    let added : versions c.insert_by_key.new.store ≡ insert (versions c.args.store.now) (place c.args.store.now.keys c.args.cursor) c.args.version = c.insert_by_key.ensures.added ∙ (λ i. insert (c.reserve_key.ensures.versions i) (place_in (c.reserve_key.ensures.blocks i) c.args.cursor) c.args.version) in
    subst (IsPut g.V.Version.seen g.V.Key.Ord.cmp (versions c.args.store.now) c.args.version) (sym added)
    (place_between g.V.Version.seen g.V.Key.Ord.cmp (key_order g.met.V.Key.Ord.total g.met.V.Version.exact_keys) (versions c.args.store.now) (place c.args.store.now.keys c.args.cursor) c.args.version c.requires.keyed.index.order c.requires.cursor.gap).0
