use Rattle.std.proofs.Common.{◌<◌, arith}
use Rattle.am_schedule.proofs.numbers.bits.Goals as goal
use Rattle.am_schedule.proofs.Decimals.{bits_small}

pub overflow_mul-bits : goal.overflow_mul-bits
overflow_mul-bits c =
    let h = bits_small c.loop-byte.bits 0 c.loop-byte.byte-index c.loop-byte.invariant.small (omega arith) (omega arith) in
    omega (arith, h)

pub overflow_add-bits : goal.overflow_add-bits
overflow_add-bits c =
    let small : c.from.result < 16 = omega (arith, c.in_ok-hex_digit.ensures.small) in
    let h = bits_small c.loop-byte.bits c.from.result c.loop-byte.byte-index c.loop-byte.invariant.small (omega arith) small in
    omega (arith, h)
