use Rattle.std.proofs.Common.{sym, ◌∙◌}
use Rattle.slab.specs.Slab.{get}
use Rattle.am_merge.specs.Rows.{entries}
use Rattle.am_merge.proofs.Firsts.{no_versions, none_first, least_found}
use Rattle.am_merge.proofs.held.Held.next_expiry.Goals as goal

pub returns-in-Some : goal.returns-in-Some
returns-in-Some g c =
    rw (← c.self.view_is)
    (least_found g.V.Version.seen (get c.self.inside.store.table) g.V.Version.head_of g.V.Key.Ord.cmp (entries c.self.inside.store.keys) c.self.invariant.0.keys (entries c.self.inside.store.expiries) c.in-Some.first c.self.invariant.0.expiries (sym c.first.ensures ∙ c.in-Some.is))

pub returns-in-None : goal.returns-in-None
returns-in-None g c =
    rw (← c.self.view_is)
    (no_versions g.V.Version.seen (get c.self.inside.store.table) g.V.Version.head_of g.V.Key.Ord.cmp (entries c.self.inside.store.keys) c.self.invariant.0.keys
    (λ s v there. none_first g.V.Version.seen (get c.self.inside.store.table) (entries c.self.inside.store.expiries) s v c.self.invariant.0.expiries (sym c.first.ensures ∙ c.in-None.is) there))
