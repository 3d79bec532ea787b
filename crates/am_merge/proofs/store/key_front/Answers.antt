use Rattle.am_merge.specs.Cursors.{place}
use Rattle.am_merge.specs.Stores.{versions}
use Rattle.am_merge.proofs.Keys.{key_order}
use Rattle.am_merge.proofs.Places.{item_is_within}
use Rattle.am_merge.proofs.Fronts.{from_place, from_gap}
use Rattle.am_merge.proofs.store.key_front.Goals as goal

pub returns-in-Ok : goal.returns-in-Ok
returns-in-Ok g c =
    let found = c.in-Ok.ensures.found in
    record {
      within = item_is_within c.args.store.now.keys c.in-Ok.cursor found.item;
      from = from_place g.V.Version.seen g.V.Key.Ord.cmp (key_order g.met.V.Key.Ord.total g.met.V.Version.exact_keys) (versions c.args.store.now) c.args.key.now (place c.args.store.now.keys c.in-Ok.cursor) c.requires.keys.order found.place;
    }

pub returns-in-Err : goal.returns-in-Err
returns-in-Err g c =
    let absent = c.in-Err.ensures.absent in
    record {
      within = absent.within;
      from = from_gap g.V.Version.seen g.V.Key.Ord.cmp (key_order g.met.V.Key.Ord.total g.met.V.Version.exact_keys) (versions c.args.store.now) c.args.key.now (place c.args.store.now.keys c.in-Err.cursor) absent.gap;
    }
