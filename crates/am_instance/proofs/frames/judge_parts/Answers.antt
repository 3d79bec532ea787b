use Rattle.std.proofs.Common.{◌+◌, ap, sym, subst, ◌∙◌, drop}
use Rattle.std.proofs.lemmas.Result.{err_from_is_err_and}
use Rattle.am_instance.specs.Deliveries.{first_fault, rows_of, rows_in}
use Rattle.am_instance.specs.Steps.{IsJudgement}
use Rattle.am_instance.proofs.Arrivals.{first_fault_then}
use Rattle.am_instance.proofs.Judgements.{judged_here, rows_at}
use Rattle.am_instance.proofs.frames.judge_parts.Goals as goal

pub returns-in_err-judge_part-clause-fault : goal.returns-in_err-judge_part-clause-fault
returns-in_err-judge_part-clause-fault c =
    let p = err_from_is_err_and c.from_residual.result c.from_residual.ensures.1 in
    let split = rows_at c.args.unknown c.args.parts.now c.loop-part.part-index c.part-item.result c.loop-part-test.true c.part-item.is in
    let here = judged_here (rows_of c.args.unknown c.part-item.result) (rows_in c.args.unknown (drop (c.loop-part.part-index + 1) c.args.parts.now)) c.in_err-judge_part.field-0.0 c.in_err-judge_part.ensures.fault in
    rw (p.1, p.2) (subst (λ fault. IsJudgement fault c.in_err-judge_part.field-0.0) (ap first_fault (sym split) ∙ c.loop-part.invariant) here)

pub loop-part-preserved : goal.loop-part-preserved
loop-part-preserved c =
    let split = rows_at c.args.unknown c.args.parts.now c.loop-part.part-index c.part-item.result c.loop-part-test.true c.part-item.is in
    sym (first_fault_then (rows_of c.args.unknown c.part-item.result) (rows_in c.args.unknown (drop (c.loop-part.part-index + 1) c.args.parts.now)) c.in_ok-judge_part.ensures.sound) ∙ ap first_fault (sym split) ∙ c.loop-part.invariant
