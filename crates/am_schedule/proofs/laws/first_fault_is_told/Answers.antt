use Rattle.am_schedule.proofs.Firsts.{first_is_told, no_later_is_told}
use Rattle.am_schedule.proofs.laws.first_fault_is_told.Goals as goal

pub returns-clause-first : goal.returns-clause-first
returns-clause-first c = first_is_told

pub returns-clause-no_later : goal.returns-clause-no_later
returns-clause-no_later c = no_later_is_told
