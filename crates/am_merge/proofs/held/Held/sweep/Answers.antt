use Rattle.std.proofs.Common.{sym, subst, All}
use Rattle.std.proofs.lemmas.List.Elements.{All-filter}
use Rattle.am_version_order.specs.Versions.{is_live}
use Rattle.am_merge.specs.Stores.{versions}
use Rattle.am_merge.proofs.Keys.{key_order}
use Rattle.am_merge.proofs.Sweeps.{at-swept}
use Rattle.am_merge.proofs.held.Held.sweep.Goals as goal

pub returns-clause-each : goal.returns-clause-each
returns-clause-each g c key =
    rw (← c.self.view_is, c.drop_expired.ensures.swept)
    (at-swept g.V.Version.seen g.V.Key.Ord.cmp (key_order g.met.V.Key.Ord.total g.met.V.Version.exact_keys) c.args.now (versions c.self.inside.store) key c.self.invariant.0.keys.order)

pub invariant_of-self : goal.invariant_of-self
invariant_of-self g c =
    (c.drop_expired.ensures.store, subst (All g.V.Version.is_value) (sym c.drop_expired.ensures.swept) (All-filter (λ v. is_live c.args.now (g.V.Version.seen v)) g.V.Version.is_value (versions c.self.inside.store) c.self.invariant.1))
