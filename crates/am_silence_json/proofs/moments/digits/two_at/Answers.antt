use Rattle.am_silence_json.proofs.moments.digits.two_at.Goals as goal

pub returns-in_err-tens-clause-only : goal.returns-in_err-tens-clause-only
returns-in_err-tens-clause-only c = λ n h. cc (c.in_err-tens.ensures.only _ h.tens)

pub returns-in_err-ones-clause-only : goal.returns-in_err-ones-clause-only
returns-in_err-ones-clause-only c = λ n h. cc (c.in_err-ones.ensures.only _ h.ones)
