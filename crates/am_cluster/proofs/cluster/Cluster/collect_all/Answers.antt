use Rattle.std.proofs.Common.{[], ◌∷◌, Err, sym, subst, length, arith}
use Rattle.std.proofs.lemmas.Result.{err_from_is_err_and}
use Rattle.am_cluster.specs.Settling.{AreTurns, collections}
use Rattle.am_cluster.specs.Settling.Turn.{Collects}
use Rattle.am_cluster.proofs.Turned.{one_fails, one_more, still_can}
use Rattle.am_cluster.proofs.cluster.Cluster.collect_all.Goals as goal

pub collect_at-requires-clause-within : goal.collect_at-requires-clause-within
collect_at-requires-clause-within c =
    let still = still_can c.args.self.now (collections c.loop-place.place) c.args.now c.args.line c.loop-place.self c.requires.ready c.loop-place.invariant in
    let members = still.members in let count = c.count-place-end.ensures in let less = c.loop-place-test.true in omega arith

pub collect_at-requires-clause-ready : goal.collect_at-requires-clause-ready
collect_at-requires-clause-ready c = (still_can c.args.self.now (collections c.loop-place.place) c.args.now c.args.line c.loop-place.self c.requires.ready c.loop-place.invariant).ready

pub returns-in_err-collect_at : goal.returns-in_err-collect_at
returns-in_err-collect_at c =
    let p = err_from_is_err_and c.from_residual.result c.from_residual.ensures.1 in
    subst (λ r. AreTurns c.args.self.now (collections (length c.args.self.now.replicas)) c.args.now c.args.line r c.collect_at.new.self) (sym p.1)
    (one_fails Collects c.args.self.now c.loop-place.self c.collect_at.new.self c.args.now c.args.line 0 (length c.args.self.now.replicas) c.loop-place.place c.loop-place.place
    (let count = c.count-place-end.ensures in let less = c.loop-place-test.true in omega arith) (omega arith) p.0 c.loop-place.invariant
    (subst (λ e. AreTurns c.loop-place.self (Collects c.loop-place.place ∷ []) c.args.now c.args.line (Err e) c.collect_at.new.self) (sym p.2) c.in_err-collect_at.ensures))

pub loop-place-preserved : goal.loop-place-preserved
loop-place-preserved c = one_more Collects c.args.self.now c.loop-place.self c.collect_at.new.self c.args.now c.args.line 0 c.loop-place.place c.loop-place.place (omega arith) c.loop-place.invariant c.in_ok-collect_at.ensures
