use Rattle.std.proofs.Common.{sym, subst, true}
use Rattle.am_merge.specs.Cursors.{place}
use Rattle.am_merge.specs.Stores.{versions}
use Rattle.am_merge.specs.Places.{IsPlaceOf, IsGapFor}
use Rattle.am_merge.proofs.Keys.{key_order}
use Rattle.am_merge.proofs.Puts.{place_between}
use Rattle.am_merge.proofs.Steps.{no_key, one_key, versions_by}
use Rattle.am_merge.proofs.changes.needs.Goals as goal

pub returns-in-Ok-clause-keys : goal.returns-in-Ok-clause-keys
returns-in-Ok-clause-keys g c =
    let at = subst (λ k. IsPlaceOf g.V.Version.seen g.V.Key.Ord.cmp (versions c.args.store.now) k (place c.args.store.now.keys c.in-Ok.cursor)) c.key.ensures c.in-Ok.ensures.found.place in
    sym (no_key g.V.Version.seen g.V.Key.Ord.cmp (key_order g.met.V.Key.Ord.total g.met.V.Version.exact_keys) (versions c.args.store.now) c.args.version.now (place c.args.store.now.keys c.in-Ok.cursor) c.requires.keys.order at)

pub returns-in-Err-clause-keys : goal.returns-in-Err-clause-keys
returns-in-Err-clause-keys g c =
    let gap = subst (λ k. IsGapFor g.V.Version.seen g.V.Key.Ord.cmp (versions c.args.store.now) k (place c.args.store.now.keys c.in-Err.field-0)) c.key.ensures c.in-Err.ensures.absent.gap in
    sym (one_key g.V.Version.seen g.V.Key.Ord.cmp (key_order g.met.V.Key.Ord.total g.met.V.Version.exact_keys) (versions c.args.store.now) c.args.version.now (place c.args.store.now.keys c.in-Err.field-0) gap)

pub returns-in-Err-clause-versions : goal.returns-in-Err-clause-versions
returns-in-Err-clause-versions g c =
    let gap = subst (λ k. IsGapFor g.V.Version.seen g.V.Key.Ord.cmp (versions c.args.store.now) k (place c.args.store.now.keys c.in-Err.field-0)) c.key.ensures c.in-Err.ensures.absent.gap in
    sym (versions_by g.V.Version.seen g.V.Key.Ord.cmp (key_order g.met.V.Key.Ord.total g.met.V.Version.exact_keys) (versions c.args.store.now) c.args.version.now true (place_between g.V.Version.seen g.V.Key.Ord.cmp (key_order g.met.V.Key.Ord.total g.met.V.Version.exact_keys) (versions c.args.store.now) (place c.args.store.now.keys c.in-Err.field-0) c.args.version.now c.requires.keys.order gap).1)
