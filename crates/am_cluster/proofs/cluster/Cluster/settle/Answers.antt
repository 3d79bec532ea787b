use Rattle.std.proofs.Common.{Err, sym, subst}
use Rattle.std.proofs.lemmas.Result.{err_from_is_err_and}
use Rattle.am_cluster.specs.Settling.{CanSettle, IsAdmitted, IsSettle}
use Rattle.am_cluster.proofs.Admitted.{can_begun, not_admitted, settled_after}
use Rattle.am_cluster.proofs.Settled.{has_settled}
use Rattle.am_cluster.proofs.cluster.Cluster.settle.Goals as goal

pub returns-in_err-admit : goal.returns-in_err-admit
returns-in_err-admit c =
    let p = err_from_is_err_and c.from_residual.result c.from_residual.ensures.1 in
    let is : IsSettle c.args.self.now c.args.now c.args.line c.from_residual.result c.admit.new.self = subst (λ r. IsSettle c.args.self.now c.args.now c.args.line r c.admit.new.self) (sym p.1)
    (not_admitted c.args.self.now c.admit.new.self c.args.now c.args.line p.0
    (subst (λ e. IsAdmitted c.args.self.now c.args.now c.args.line (Err e) c.admit.new.self) (sym p.2) c.in_err-admit.ensures)) in
    record { settled = is; joined = has_settled c.args.self.now c.admit.new.self c.args.now c.args.line c.from_residual.result is }

pub make_turns-requires : goal.make_turns-requires
make_turns-requires c = record {
  ready = subst (λ w. CanSettle w c.args.now) (sym c.in_ok-admit.ensures.1) (can_begun c.args.self.now.replicas c.args.self.now c.args.now c.args.line c.in_ok-admit.ensures.0);
}

pub returns : goal.returns
returns c =
    let is = settled_after c.args.self.now c.admit.new.self c.make_turns.new.self c.args.now c.args.line c.make_turns.result c.in_ok-admit.ensures.0 c.in_ok-admit.ensures.1 c.make_turns.ensures in
    record { settled = is; joined = has_settled c.args.self.now c.make_turns.new.self c.args.now c.args.line c.make_turns.result is }
