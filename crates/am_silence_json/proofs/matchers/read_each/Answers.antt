use Rattle.std.proofs.Common.{arith}
use Rattle.am_silence_json.proofs.EachMatcher.{one_missing, whole_found}
use Rattle.am_silence_json.proofs.matchers.read_each.Goals as goal

pub returns-in-Err-clause-wrong : goal.returns-in-Err-clause-wrong
returns-in-Err-clause-wrong c = λ other.
    let wrong = c.in-Err.ensures.wrong other in
    (wrong.0, one_missing c.args.values.now c.loop-value.value-index c.value-item.result (omega arith) (rw (← c.value-item.is) wrong.1))

pub returns-clause-read : goal.returns-clause-read
returns-clause-read c = whole_found _ _ _ (omega arith) c.loop-value.invariant
