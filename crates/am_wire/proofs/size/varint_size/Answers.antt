use Rattle.std.proofs.Common.{ℕ, ◌+◌, ◌/◌, sym, ◌∙◌, ap, arith}
use Rattle.am_wire.proofs.Sizes.{one_group, size_by_zeros}
use Rattle.am_wire.proofs.size.varint_size.Goals as goal

pub returns-then-value-lt128-clause-size : goal.returns-then-value-lt128-clause-size
returns-then-value-lt128-clause-size c = sym (one_group 9 c.args.value c.if-value-lt128.true)

pub returns-clause-size : goal.returns-clause-size
returns-clause-size c = ap (λ (n : ℕ). n / 7 + 1) c.from.ensures ∙ size_by_zeros c.args.value (omega (arith, c.if-value-lt128.false)) c.ranges.value.fits
