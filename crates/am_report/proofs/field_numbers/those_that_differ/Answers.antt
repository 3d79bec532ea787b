use Rattle.std.proofs.Common.{sym}
use Rattle.am_report.specs.UnknownFields.{differs_at}
use Rattle.am_report.proofs.FieldNumbers.{filter_more}
use Rattle.am_report.proofs.field_numbers.those_that_differ.Goals as goal

pub loop-number-preserved : goal.loop-number-preserved
loop-number-preserved c =
    filter_more (differs_at c.args.one.now c.args.other.now) c.args.numbers.now c.loop-number.found.items c.push_if.new.numbers.items c.loop-number.number-index
    c.in_ok-differs.differs c.loop-number-test.true (sym c.in_ok-differs.ensures) c.loop-number.invariant c.in_ok-push_if.ensures
