use Rattle.std.proofs.Common.{arith}
use Rattle.am_api_decisions.proofs.Digits.{within}
use Rattle.am_api_decisions.proofs.hashes.number_of.Goals as goal

pub overflow_mul-number : goal.overflow_mul-number
overflow_mul-number c =
    let fits = within c.loop-digit.number c.loop-digit.digit-index 0 c.loop-digit.invariant.within (omega arith) (omega arith) in
    omega (arith, fits)

pub overflow_add-number : goal.overflow_add-number
overflow_add-number c =
    let low = c.in_ok-value.ensures.below in
    let fits = within c.loop-digit.number c.loop-digit.digit-index c.in_ok-value.value c.loop-digit.invariant.within (omega arith) low in
    omega (arith, fits)
