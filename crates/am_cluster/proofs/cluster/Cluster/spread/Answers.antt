use Rattle.std.proofs.Common.{[], ◌∷◌, ◌-◌, Err, sym, subst, length, map, arith}
use Rattle.std.specs.List.{range_with_len}
use Rattle.std.proofs.lemmas.Result.{err_from_is_err_and}
use Rattle.am_cluster.specs.Settling.{AreTurnsMade, AreTurns, spreadings}
use Rattle.am_cluster.specs.Settling.Turn.{Takes}
use Rattle.am_cluster.proofs.Turned.{one_fails, one_more, still_can}
use Rattle.am_cluster.proofs.cluster.Cluster.spread.Goals as goal

pub take_from-requires-clause-borrower : goal.take_from-requires-clause-borrower
take_from-requires-clause-borrower c =
    let still = still_can c.args.self.now (spreadings c.loop-place.place) c.args.now c.args.line c.loop-place.self c.requires.ready c.loop-place.invariant.1 in
    let members = still.members in let count = c.count-place-end.ensures in let less = c.loop-place-test.true in omega arith

pub take_from-requires-clause-lender : goal.take_from-requires-clause-lender
take_from-requires-clause-lender c =
    let still = still_can c.args.self.now (spreadings c.loop-place.place) c.args.now c.args.line c.loop-place.self c.requires.ready c.loop-place.invariant.1 in
    let members = still.members in let count = c.count-place-end.ensures in let less = c.loop-place-test.true in omega arith

pub take_from-requires-clause-ready : goal.take_from-requires-clause-ready
take_from-requires-clause-ready c = (still_can c.args.self.now (spreadings c.loop-place.place) c.args.now c.args.line c.loop-place.self c.requires.ready c.loop-place.invariant.1).ready

pub returns-in_err-take_from : goal.returns-in_err-take_from
returns-in_err-take_from c =
    let p = err_from_is_err_and c.from_residual.result c.from_residual.ensures.1 in
    let first = c.loop-place.invariant.0 in
    subst (λ r. AreTurns c.args.self.now (spreadings (length c.args.self.now.replicas)) c.args.now c.args.line r c.take_from.new.self) (sym p.1)
    (one_fails (λ place. Takes place 0) c.args.self.now c.loop-place.self c.take_from.new.self c.args.now c.args.line 1 (length c.args.self.now.replicas - 1) (c.loop-place.place - 1) c.loop-place.place
    (let count = c.count-place-end.ensures in let less = c.loop-place-test.true in omega arith) (omega (arith, first)) p.0 c.loop-place.invariant.1
    (subst (λ e. AreTurns c.loop-place.self (Takes c.loop-place.place 0 ∷ []) c.args.now c.args.line (Err e) c.take_from.new.self) (sym p.2) c.in_err-take_from.ensures))

pub loop-place-preserved : goal.loop-place-preserved
loop-place-preserved c =
    let first = c.loop-place.invariant.0 in
    let next = one_more (λ place. Takes place 0) c.args.self.now c.loop-place.self c.take_from.new.self c.args.now c.args.line 1 (c.loop-place.place - 1) c.loop-place.place (omega (arith, first)) c.loop-place.invariant.1 c.in_ok-take_from.ensures in
    (omega arith, subst (λ n. AreTurnsMade c.args.self.now (map (λ place. Takes place 0) (range_with_len 1 n)) c.args.now c.args.line c.take_from.new.self) (omega (arith, first)) next)
