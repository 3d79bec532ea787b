use Rattle.std.proofs.lemmas.Result.{err_from_is_err_and}
use Rattle.am_member.proofs.Making.{all_more, one_on, split_on, stops}
use Rattle.am_member.proofs.steps.make_steps.Goals as goal

pub loop-frame-preserved : goal.loop-frame-preserved
loop-frame-preserved c =
    (all_more _ _ _ _ _ _ _ c.loop-frame.invariant.0 c.in_ok-make_step.ensures.made, one_on _ _ _ _ _ c.loop-frame.invariant.1 c.in-Some.ensures.steps.0)

pub returns-in_err-make_step-clause-stopped : goal.returns-in_err-make_step-clause-stopped
returns-in_err-make_step-clause-stopped c =
    let p = err_from_is_err_and c.from_residual.result c.from_residual.ensures.1 in
    rw (p.1, p.2) (stops _ _ _ _ c.next.new.self.rest.items c.in-Some.frame _ _ _ _ _ _ (split_on _ _ _ _ _ c.loop-frame.invariant.1 c.in-Some.ensures.steps.0) c.loop-frame.invariant.0 c.in_err-make_step.ensures.stopped c.in_err-make_step.ensures.kept)
