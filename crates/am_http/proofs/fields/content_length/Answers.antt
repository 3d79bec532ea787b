use Rattle.std.proofs.Common.{arith, sym}
use Rattle.am_http.proofs.Digits.{next_small, still_fits, number_more, digits_more}
use Rattle.am_http.proofs.fields.content_length.Goals as goal

pub overflow_mul-number : goal.overflow_mul-number
overflow_mul-number c = let small = still_fits c.loop-byte.number c.loop-byte.byte-index c.loop-byte.invariant.small (omega arith) in omega (arith, small)

pub overflow_add-number : goal.overflow_add-number
overflow_add-number c =
    let small = still_fits c.loop-byte.number c.loop-byte.byte-index c.loop-byte.invariant.small (omega arith) in
    let range = c.if-not-is_ascii_digit.ensures.cases in
    omega (arith, small, c.from.ensures, range)

pub loop-byte-preserved : goal.loop-byte-preserved
loop-byte-preserved c =
    let range = c.if-not-is_ascii_digit.ensures.cases in
    let inside = c.loop-byte-test.true in
    record {
      number_is = rw c.from.ensures (number_more _ c.loop-byte.byte-index c.loop-byte.number inside range c.loop-byte.invariant.number_is);
      digits = digits_more _ c.loop-byte.byte-index inside (sym c.if-not-is_ascii_digit.ensures.value) c.loop-byte.invariant.digits;
      small = next_small c.loop-byte.number c.from.result c.loop-byte.byte-index c.loop-byte.invariant.small (omega (arith, c.from.ensures, range));
    }
