use Rattle.std.proofs.Common.{subst, sym, All}
use Rattle.am_merge.proofs.builder.HeldBuilder.build.Goals as goal

pub invariant_of-result : goal.invariant_of-result
invariant_of-result g c = (c.in_ok-store.ensures.store, subst (All g.V.Version.is_value) (sym c.in_ok-store.ensures.same) c.self.invariant.1)
