use Rattle.std.proofs.Common.{refl, arith}
use Rattle.am_wire.proofs.Groups.{after-start, ends_at_tenth, fails_at_tenth, ends_here, reads_on, ends_short}
use Rattle.am_wire.proofs.varint.long_varint_from.Goals as goal

pub returns-then-byte-lt2-clause-value : goal.returns-then-byte-lt2-clause-value
returns-then-byte-lt2-clause-value c = ends_at_tenth _ _ _ _ _ c.loop-place.invariant _ c.loop-place-test.true c.from-byte.ensures c.if-place-eq-MOST_BYTES.true c.if-byte-lt2.true

pub returns-else-byte-lt2-clause-value : goal.returns-else-byte-lt2-clause-value
returns-else-byte-lt2-clause-value c = fails_at_tenth _ _ _ _ _ c.loop-place.invariant _ c.loop-place-test.true c.from-byte.ensures c.if-place-eq-MOST_BYTES.true c.if-byte-lt2.false

pub returns-then-byte-lt128-clause-value : goal.returns-then-byte-lt128-clause-value
returns-then-byte-lt128-clause-value c = ends_here _ _ _ _ _ c.loop-place.invariant _ c.loop-place-test.true c.from-byte.ensures c.if-place-eq-MOST_BYTES.false c.if-byte-lt128.true

pub loop-place-preserved : goal.loop-place-preserved
loop-place-preserved c = reads_on _ _ _ _ _ c.loop-place.invariant _ c.loop-place-test.true c.from-byte.ensures c.if-place-eq-MOST_BYTES.false c.if-byte-lt128.false

pub returns-clause-value : goal.returns-clause-value
returns-clause-value c = ends_short _ _ _ _ _ c.loop-place.invariant c.loop-place-test.false

pub returns-then-byte-lt2-clause-within : goal.returns-then-byte-lt2-clause-within
returns-then-byte-lt2-clause-within c = (omega arith, omega (arith, c.loop-place-test.true, c.if-place-eq-MOST_BYTES.true), omega arith)

pub returns-then-byte-lt128-clause-within : goal.returns-then-byte-lt128-clause-within
returns-then-byte-lt128-clause-within c = (omega arith, omega (arith, c.loop-place-test.true), omega (arith, c.loop-place.invariant.place_in))

pub loop-place-init : goal.loop-place-init
loop-place-init c = record { place_in = omega arith; scale_is = refl; value_in = omega arith; goes_on = after-start _ }
