use Rattle.am_silence_json.proofs.moments.zone.read_numeric.Goals as goal

pub returns-in_err-behind-clause-only : goal.returns-in_err-behind-clause-only
returns-in_err-behind-clause-only c = λ o h. let sign = rw (← c.byte_at-2.ensures) at h.sign in cc (c.in_err-behind.ensures.only _ sign)
