use Rattle.am_report.proofs.Dates.{text_is}
use Rattle.am_report.proofs.moments.shown_moment.Goals as goal

pub returns : goal.returns
returns c = text_is c.texts_are_unique.ensures _ _ c.write_moment.ensures
