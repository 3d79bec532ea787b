use Rattle.am_wire.proofs.Kept.{first_field, no_field, all_unknown, all_stay}
use Rattle.am_wire.proofs.laws.unknown_fields_are_the_grammar.Goals as goal

pub returns-clause-first : goal.returns-clause-first
returns-clause-first c = first_field

pub returns-clause-stop : goal.returns-clause-stop
returns-clause-stop c = no_field

pub returns-clause-fields : goal.returns-clause-fields
returns-clause-fields c = all_unknown

pub returns-clause-again : goal.returns-clause-again
returns-clause-again c = all_stay
