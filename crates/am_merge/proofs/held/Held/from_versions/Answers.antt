use Rattle.std.proofs.Common.{sym, subst, All}
use Rattle.std.proofs.lemmas.List.Sorted.{All-permutation}
use Rattle.am_merge.proofs.held.Held.from_versions.Goals as goal

pub invariant_of-result : goal.invariant_of-result
invariant_of-result g c =
    let given = subst (All g.V.Version.is_value) c.deref.ensures.value c.versions_are_values.ensures in
    (c.in-Ok.ensures.store, subst (All g.V.Version.is_value) (sym c.in-Ok.ensures.all) (All-permutation g.V.Version.is_value c.args.versions.items c.order_by_key.new.versions.items c.order_by_key.ensures.same given))
