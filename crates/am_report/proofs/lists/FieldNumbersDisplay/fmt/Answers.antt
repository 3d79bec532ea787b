use Rattle.std.proofs.Common.{refl}
use Rattle.std.proofs.Output.{has_written_append, has_written_of_eq}
use Rattle.am_report.proofs.Listing.{no_numbers, numbers_first}
use Rattle.am_report.proofs.lists.FieldNumbersDisplay.fmt.Goals as goal

pub returns-in_default-clause-writes : goal.returns-in_default-clause-writes
returns-in_default-clause-writes g c = λ plain ok.
    has_written_of_eq _ _ _ _ _ (no_numbers _ c.in_default.ensures.cases) (c.write_str.ensures.writes plain ok)

pub returns-clause-writes : goal.returns-clause-writes
returns-clause-writes g c = λ plain ok.
    let first = c.in_ok-write.ensures.writes plain refl in
    has_written_of_eq _ _ _ _ _ (numbers_first _ _ _ c.in-Some.ensures.cases.0)
    (has_written_append _ _ _ _ _ _ first (c.write_field_numbers.ensures first.plain ok))
