use Rattle.std.proofs.Common.{◌<◌, ◌*◌, sym, arith}
use Rattle.am_schedule.proofs.times.fraction.Goals as goal
use Rattle.am_schedule.proofs.Decimals.{fraction_below}

pub overflow_mul-result : goal.overflow_mul-result
overflow_mul-result c =
    let h : c.in_ok-number.number * c.pow-scale.result < 1_000_000_000 = rw c.pow-scale.ensures (fraction_below _ _ (sym c.in_ok-number.ensures) (omega arith)) in
    omega (arith, h)

pub overflow_cast-result : goal.overflow_cast-result
overflow_cast-result c =
    let h : c.in_ok-number.number * c.pow-scale.result < 1_000_000_000 = rw c.pow-scale.ensures (fraction_below _ _ (sym c.in_ok-number.ensures) (omega arith)) in
    omega (arith, h)

pub returns-clause-below_second : goal.returns-clause-below_second
returns-clause-below_second c = rw c.pow-scale.ensures (fraction_below _ _ (sym c.in_ok-number.ensures) (omega arith))
