use Rattle.std.proofs.Common.{subst}
use Rattle.slab.specs.Slab.{get}
use Rattle.am_merge.specs.Rows.{entries}
use Rattle.am_merge.specs.Searches.{IsMissing}
use Rattle.am_merge.specs.Entries.{expiry_order}
use Rattle.am_merge.proofs.Stores.{expiry_rising, expiry_never_missed}
use Rattle.am_merge.proofs.store.expiry_cursor.Goals as goal

pub search-requires : goal.search-requires
search-requires g c = expiry_rising g.V.Version.seen (get c.args.store.now.table) (entries c.args.store.now.expiries) c.expires-expires.result c.args.slot c.requires.index

pub unreachable-requires : goal.unreachable-requires
unreachable-requires g c =
    expiry_never_missed g.V.Version.seen (get c.args.store.now.table) c.args.store.now.expiries c.args.slot c.index.result.now c.in-Err.field-0 c.index.ensures c.requires.index
    (subst (λ t. IsMissing (expiry_order t c.args.slot) c.args.store.now.expiries c.in-Err.field-0) c.expires-expires.ensures c.in-Err.ensures.missing)
