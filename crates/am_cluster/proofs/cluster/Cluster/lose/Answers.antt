use Rattle.std.proofs.Common.{◌<◌, ◌∙◌, length, refl, ap, subst, arith}
use Rattle.am_cluster.specs.Losing.{IsNoNumber, IsNumberedAt}
use Rattle.am_cluster.proofs.Lost.{has_lost, place_within, world_left}
use Rattle.am_cluster.proofs.cluster.Cluster.lose.Goals as goal

pub returns-in_default : goal.returns-in_default
returns-in_default c = (subst (λ fs. IsNoNumber fs c.args.number) (c.deref.ensures.value ∙ ap (λ w. w.flights) c.self.view_is) c.in_default.ensures, refl)

pub remove-requires : goal.remove-requires
remove-requires c =
    let at = subst (λ fs. IsNumberedAt fs c.args.number c.in-Some.index) c.deref.ensures.value c.in-Some.ensures in
    let within : c.in-Some.index < length c.self.inside.flights.items = place_within c.self.inside.flights.items c.args.number c.in-Some.index at in
    let flights = c.self.inside.flights in
    omega (arith, within, flights.ok.0)

pub invariant_of-self : goal.invariant_of-self
invariant_of-self c =
    let at = subst (λ fs. IsNumberedAt fs c.args.number c.in-Some.index) c.deref.ensures.value c.in-Some.ensures in record {
      members = c.self.invariant.members;
      world = world_left _ c.args.number c.in-Some.index c.remove.new.self.items at c.remove.ensures.items c.self.invariant.world;
    }

pub returns : goal.returns
returns c =
    let at = subst (λ fs. IsNumberedAt fs c.args.number c.in-Some.index) c.deref.ensures.value c.in-Some.ensures in
    (refl, has_lost _ c.args.number c.in-Some.index c.remove.new.self.items at c.remove.ensures.items c.args.self.now c.self.view_is)
