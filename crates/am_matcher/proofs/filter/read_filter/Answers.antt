use Rattle.std.proofs.Common.{◌∙◌}
use Rattle.am_matcher.proofs.FilterTexts.{no_filter-split, no_filter-value, filter_of_parts}
use Rattle.am_matcher.proofs.HandedOn.{handed_on}
use Rattle.am_matcher.proofs.filter.read_filter.Goals as goal

pub returns-in_default-clause-syntax : goal.returns-in_default-clause-syntax
returns-in_default-clause-syntax c is_error =
    no_filter-split _ _ (c.deref.ensures.value ∙ c.in_ok-characters.ensures) c.in_default.ensures

pub returns-in_err-pattern-clause-syntax : goal.returns-in_err-pattern-clause-syntax
returns-in_err-pattern-clause-syntax c is_error =
    no_filter-value _ _ c.in-Some.parts.kind _ c.in-Some.parts.written.now (c.deref.ensures.value ∙ c.in_ok-characters.ensures) c.in-Some.ensures
    (c.in_err-pattern.ensures.syntax (handed_on c.from_residual-in_err-pattern.result c.in_err-pattern.field-0.0 _ c.from_residual-in_err-pattern.ensures.1 is_error))

pub returns-in_err-pattern-clause-no_pattern : goal.returns-in_err-pattern-clause-no_pattern
returns-in_err-pattern-clause-no_pattern c is_error =
    c.in_err-pattern.ensures.no_pattern (handed_on c.from_residual-in_err-pattern.result c.in_err-pattern.field-0.0 _ c.from_residual-in_err-pattern.ensures.1 is_error)

pub returns-clause-read : goal.returns-clause-read
returns-clause-read c =
    let value = c.in_ok-pattern.ensures.read in
    filter_of_parts _ _ _ _ c.in-Some.parts.written.now value.0 (c.deref.ensures.value ∙ c.in_ok-characters.ensures) c.in-Some.ensures value.1
    (c.new.ensures ∙ c.in_ok-name.ensures) (c.new-2.ensures ∙ value.2)
