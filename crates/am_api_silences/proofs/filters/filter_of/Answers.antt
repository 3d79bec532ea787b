use Rattle.std.proofs.Common.{inl, ap, Err}
use Rattle.am_api_silences.proofs.filters.filter_of.Goals as goal

pub returns-in-Err-Syntax-clause-refused : goal.returns-in-Err-Syntax-clause-refused
returns-in-Err-Syntax-clause-refused c = inl (c.in-Err-Syntax.ensures.syntax (ap Err c.in-Err-Syntax.field-0-is))
