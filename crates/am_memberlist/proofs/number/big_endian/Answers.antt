use Rattle.std.proofs.Common.{◌+◌, ◌*◌, ◌<◌, ◌^◌, arith}
use Rattle.am_memberlist.proofs.Numbers.{below_more, fits, one_more}
use Rattle.am_memberlist.proofs.number.big_endian.Goals as goal

pub overflow_mul-value : goal.overflow_mul-value
overflow_mul-value c =
    let h : c.loop-byte.value * 256 + 0 < 2 ^ 64 = fits c.loop-byte.value 0 c.loop-byte.byte-index c.loop-byte.invariant.1 (omega arith) (omega (arith, c.requires)) in
    omega (arith, h)

pub overflow_add-value : goal.overflow_add-value
overflow_add-value c =
    let byte : c.from.result < 256 = omega (arith, c.type_inv.bytes c.loop-byte.byte-index, c.from.ensures) in
    let h : c.loop-byte.value * 256 + c.from.result < 2 ^ 64 = fits c.loop-byte.value c.from.result c.loop-byte.byte-index c.loop-byte.invariant.1 byte (omega (arith, c.requires)) in
    omega (arith, h)

pub loop-byte-preserved : goal.loop-byte-preserved
loop-byte-preserved c =
    let byte : c.from.result < 256 = omega (arith, c.type_inv.bytes c.loop-byte.byte-index, c.from.ensures) in (
      rw c.from.ensures (one_more c.loop-byte.value c.loop-byte.byte-index _ c.args.bytes.now c.loop-byte-test.true c.loop-byte.invariant.0),
      below_more c.loop-byte.value c.from.result c.loop-byte.byte-index c.loop-byte.invariant.1 byte,
    )
