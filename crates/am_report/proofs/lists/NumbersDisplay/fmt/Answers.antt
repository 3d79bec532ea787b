use Rattle.std.proofs.Common.{refl, sym, ◌∙◌}
use Rattle.std.proofs.Output.{has_written_append, has_written_of_eq}
use Rattle.am_report.proofs.Listing.{numbers_none, numbers_first}
use Rattle.am_report.proofs.lists.NumbersDisplay.fmt.Goals as goal

pub returns-in_default-clause-writes : goal.returns-in_default-clause-writes
returns-in_default-clause-writes g c = λ plain ok.
    has_written_of_eq _ _ _ _ _ (numbers_none _ (sym c.again-numbers.ensures ∙ c.in_default.ensures.steps.0)) (c.write_str.ensures.writes plain ok)

pub returns-clause-writes : goal.returns-clause-writes
returns-clause-writes g c = λ plain ok.
    let first = c.in_ok-write.ensures.writes plain refl in
    has_written_of_eq _ _ _ _ _ (numbers_first _ _ _ (sym c.again-numbers.ensures ∙ c.in-Some.ensures.steps))
    (has_written_append _ _ _ _ _ _ first (c.write_numbers.ensures first.plain ok))
