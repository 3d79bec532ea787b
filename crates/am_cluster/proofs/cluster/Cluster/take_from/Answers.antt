use Rattle.std.proofs.Common.{[], ◌∷◌, Err, refl, sym, ap, ◌∙◌, subst}
use Rattle.std.proofs.lemmas.Result.{err_from_is_err_and}
use Rattle.am_cluster.specs.Settling.{AreTurns}
use Rattle.am_cluster.specs.Settling.Turn.{Takes}
use Rattle.am_cluster.proofs.Turned.{can_take, nothing_lent, not_taken, peer_seen, took}
use Rattle.am_cluster.proofs.cluster.Cluster.take_from.Goals as goal

pub lent_by-requires-clause-runs : goal.lent_by-requires-clause-runs
lent_by-requires-clause-runs c = c.requires.ready.runs c.args.lender

pub returns-in-Ok : goal.returns-in-Ok
returns-in-Ok c = took c.args.self.now c.args.borrower c.args.lender c.args.now c.args.line c.apply_event.new.self c.requires.borrower c.requires.lender _ _ c.in_ok-event.ensures.event c.in_ok-event.ensures.lendable c.in-Ok.ensures

pub returns-in-Err : goal.returns-in-Err
returns-in-Err c = not_taken c.args.self.now c.args.borrower c.args.lender c.args.now c.args.line c.apply_event.new.self c.requires.borrower c.requires.lender _ _ c.in_ok-event.ensures.event c.in_ok-event.ensures.lendable c.in-Err.ensures

pub returns-in_err-event : goal.returns-in_err-event
returns-in_err-event c =
    let p = err_from_is_err_and c.from_residual.result c.from_residual.ensures.1 in
    subst (λ r. AreTurns c.args.self.now (Takes c.args.borrower c.args.lender ∷ []) c.args.now c.args.line r c.args.self.now) (sym (p.1 ∙ ap Err p.2))
    (nothing_lent c.args.self.now c.args.borrower c.args.lender c.args.now c.args.line c.args.self.now c.requires.borrower c.requires.lender refl)

pub apply_event-requires-clause-ready : goal.apply_event-requires-clause-ready
apply_event-requires-clause-ready c =
    can_take c.args.self.now c.args.borrower c.args.lender c.args.now c.in_ok-event.event c.requires.lender c.requires.ready
    (peer_seen _ c.args.self.now c.args.borrower c.args.lender c.self.view_is c.self.invariant.world c.requires.lender c.requires.other)
    c.in_ok-event.ensures.event c.in_ok-event.ensures.sound
