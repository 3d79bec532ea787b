use Rattle.am_report.proofs.Dates.{text_is}
use Rattle.am_report.proofs.line_laws.moments_have_one_text.Goals as goal

pub returns : goal.returns
returns c = text_is c.texts_are_unique.ensures
