use Rattle.std.proofs.Common.{ap, ◌∙◌, subst}
use Rattle.slab.specs.Slab.{get}
use Rattle.am_merge.specs.Rows.{entries}
use Rattle.am_merge.specs.Searches.{IsFound, IsMissing}
use Rattle.am_merge.specs.Entries.{key_order}
use Rattle.am_merge.proofs.Keys.{key_order as order_of_keys}
use Rattle.am_merge.proofs.Stores.{key_rising, key_never_missed, key_met_own}
use Rattle.am_merge.proofs.store.key_cursor.Goals as goal

pub search-requires : goal.search-requires
search-requires g c =
    key_rising g.V.Version.seen g.V.Version.head_of g.V.Key.Ord.cmp (order_of_keys g.met.V.Key.Ord.total g.met.V.Version.exact_keys) g.met.V.Version.heads (get c.args.store.now.table) c.key-key.result.now c.head.result c.head.ensures (entries c.args.store.now.keys) c.requires.store.keys

pub unreachable-requires : goal.unreachable-requires
unreachable-requires g c =
    key_never_missed g.V.Version.seen g.V.Version.head_of g.V.Key.Ord.cmp (order_of_keys g.met.V.Key.Ord.total g.met.V.Version.exact_keys) g.met.V.Version.heads (get c.args.store.now.table) c.args.slot c.index.result.now c.index.ensures c.head.result (c.head.ensures ∙ ap g.V.Version.head_of c.key-key.ensures) c.args.store.now.keys c.in-Err.field-0 c.requires.store.keys
    (subst (λ k. IsMissing (key_order g.V.Version.seen g.V.Key.Ord.cmp (get c.args.store.now.table) c.head.result k) c.args.store.now.keys c.in-Err.field-0) c.key-key.ensures c.in-Err.ensures.missing)

pub returns-clause-own : goal.returns-clause-own
returns-clause-own g c =
    key_met_own g.V.Version.seen g.V.Version.head_of g.V.Key.Ord.cmp (order_of_keys g.met.V.Key.Ord.total g.met.V.Version.exact_keys) g.met.V.Version.heads (get c.args.store.now.table) c.args.slot c.index.result.now c.index.ensures c.head.result (c.head.ensures ∙ ap g.V.Version.head_of c.key-key.ensures) c.args.store.now.keys c.in-Ok.cursor c.requires.store.keys
    (subst (λ k. IsFound (key_order g.V.Version.seen g.V.Key.Ord.cmp (get c.args.store.now.table) c.head.result k) c.args.store.now.keys c.in-Ok.cursor) c.key-key.ensures c.in-Ok.ensures.found)
