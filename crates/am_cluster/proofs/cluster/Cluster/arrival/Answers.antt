use Rattle.std.proofs.Common.{◌≡◌, ◌+◌, ◌<◌, ◌∙◌, length, ap, subst, arith}
use Rattle.am_cluster.specs.Losing.{IsNoNumber, IsNumberedAt}
use Rattle.am_cluster.proofs.Delivered.{arrival_of, it_flies}
use Rattle.am_cluster.proofs.Lost.{place_within}
use Rattle.am_cluster.proofs.cluster.Cluster.arrival.Goals as goal

pub returns-in_default : goal.returns-in_default
returns-in_default c = subst (λ fs. IsNoNumber fs c.args.number) (c.deref.ensures.value ∙ ap (λ w. w.flights) c.self.view_is) c.in_default.ensures

pub index-flight-requires : goal.index-flight-requires
index-flight-requires c =
    let at = subst (λ fs. IsNumberedAt fs c.args.number c.in-Some.position) c.deref.ensures.value c.in-Some.ensures in
    let within : c.in-Some.position < length c.self.inside.flights.items = place_within c.self.inside.flights.items c.args.number c.in-Some.position at in
    let flights = c.self.inside.flights in
    omega (arith, within, flights.ok.0)

pub overflow_sub-result : goal.overflow_sub-result
overflow_sub-result c =
    let at = subst (λ fs. IsNumberedAt fs c.args.number c.in-Some.position) c.deref.ensures.value c.in-Some.ensures in
    let flying = it_flies _ c.args.number c.in-Some.position c.index-flight.result.now c.self.invariant.world at c.index-flight.ensures in
    let number : c.index-flight.result.now.number ≡ flying.index + 1 = flying.number in
    omega arith

pub returns : goal.returns
returns c =
    let at = subst (λ fs. IsNumberedAt fs c.args.number c.in-Some.position) c.deref.ensures.value c.in-Some.ensures in
    arrival_of _ _ c.args.number c.in-Some.position c.index-flight.result.now c.self.view_is c.self.invariant.world at c.index-flight.ensures
