use Rattle.std.proofs.Common.{◌≡◌, ◌<◌, Some, sym, ap, ◌∙◌, subst, length, slice_get}
use Rattle.std.proofs.lemmas.Option.{slice_get_within}
use Rattle.am_cluster.proofs.cluster.Cluster.place_of.Goals as goal

pub returns-clause-within : goal.returns-clause-within
returns-clause-within c =
    let first = ap (λ ms. slice_get ms 0) (sym c.deref.ensures.value) ∙ sym c.in_ok-member.ensures.value in
    let found = subst (λ r. slice_get c.self.inside.members.items 0 ≡ Some r) (sym c.member.view_is) first in
    let inside = slice_get_within _ c.in_ok-place.place _ c.in_ok-place.ensures.there in
    subst (λ w. c.in_ok-place.place < length w.replicas) c.self.view_is
    (subst (λ n. c.in_ok-place.place < n) (ap (λ s. length s.members) c.config.ensures ∙ (c.self.invariant.world.members 0 _ found).members) inside)
