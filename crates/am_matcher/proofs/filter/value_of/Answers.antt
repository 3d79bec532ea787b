use Rattle.std.proofs.Common.{◌∙◌}
use Rattle.am_matcher.proofs.FilterTexts.{no_value, value_of_pieces}
use Rattle.am_matcher.proofs.filter.value_of.Goals as goal

pub returns-in_default-clause-syntax : goal.returns-in_default-clause-syntax
returns-in_default-clause-syntax c is_error = no_value _ _ (c.deref.ensures.value ∙ c.in_ok-pieces.ensures) c.in_default.ensures

pub returns-clause-read : goal.returns-clause-read
returns-clause-read c = (_, value_of_pieces _ _ c.in-Some.inside.now (c.deref.ensures.value ∙ c.in_ok-pieces.ensures) c.in-Some.ensures, c.in_ok-text_of_pieces.ensures)
