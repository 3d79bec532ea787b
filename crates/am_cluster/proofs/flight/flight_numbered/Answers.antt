use Rattle.std.proofs.Common.{rules, subst, sym}
use Rattle.std.specs.Prelude.{MatchOption}
use Rattle.std.proofs.lemmas.List.Sorted.{answers_always}
use Rattle.am_cluster.specs.Losing.{IsNoNumber, IsNumberedAt}
use Rattle.am_cluster.proofs.Lost.{searched}
use Rattle.am_cluster.proofs.flight.flight_numbered.Goals as goal

-- the closure gives a frame's number
pub returns : goal.returns
returns c =
    let facts = c.binary_search_by_key.ensures in
    let by_number = facts.position (λ flight. flight.number) (answers_always _ _ _ (λ f a r g called. search rules)) in
    subst (λ o. MatchOption o (IsNoNumber c.args.flights.now c.args.number) (IsNumberedAt c.args.flights.now c.args.number)) (sym c.ok.ensures.value)
    (searched c.args.flights.now c.requires c.args.number c.binary_search_by_key.result facts.bound by_number)
