use Rattle.am_schedule.proofs.OneRow.{one_form, one_verb}
use Rattle.am_schedule.proofs.laws.lines_are_read_in_one_way.Goals as goal

pub returns-clause-form : goal.returns-clause-form
returns-clause-form c = one_form

pub returns-clause-verb : goal.returns-clause-verb
returns-clause-verb c = one_verb
