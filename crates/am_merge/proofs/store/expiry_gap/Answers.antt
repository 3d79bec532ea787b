use Rattle.slab.specs.Slab.{get}
use Rattle.am_merge.specs.Rows.{entries}
use Rattle.am_merge.proofs.Stores.{expiry_rising, expiry_never_met, expiry_missed}
use Rattle.am_merge.proofs.store.expiry_gap.Goals as goal

pub search-requires : goal.search-requires
search-requires g c = expiry_rising g.V.Version.seen (get c.args.store.now.table) (entries c.args.store.now.expiries) c.args.expires c.args.slot c.requires.index

pub unreachable-requires : goal.unreachable-requires
unreachable-requires g c = expiry_never_met g.V.Version.seen (get c.args.store.now.table) c.args.store.now.expiries c.args.expires c.args.slot c.in-Ok.field-0 c.requires.vacant c.requires.index c.in-Ok.ensures.found

pub returns-clause-gap : goal.returns-clause-gap
returns-clause-gap g c = expiry_missed g.V.Version.seen (get c.args.store.now.table) c.args.store.now.expiries c.args.expires c.args.slot c.in-Err.cursor c.requires.index c.in-Err.ensures.missing
