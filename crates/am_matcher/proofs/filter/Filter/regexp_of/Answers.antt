use Rattle.am_matcher.proofs.HandedOn.{handed_on}
use Rattle.am_matcher.proofs.filter.Filter.regexp_of.Goals as goal

pub returns-in_err-matcher-clause-syntax : goal.returns-in_err-matcher-clause-syntax
returns-in_err-matcher-clause-syntax c e =
    c.in_err-matcher.ensures.syntax (handed_on c.from_residual.result c.in_err-matcher.field-0.0 _ c.from_residual.ensures.1 e)
