use Rattle.am_wire.proofs.Exact.{fields_found, fields_read, any_fields_read, fields_one_way}
use Rattle.am_wire.proofs.laws.fields_are_the_grammar.Goals as goal

pub returns-clause-found : goal.returns-clause-found
returns-clause-found c = fields_found

pub returns-clause-read : goal.returns-clause-read
returns-clause-read c = fields_read

pub returns-clause-any_read : goal.returns-clause-any_read
returns-clause-any_read c = any_fields_read

pub returns-clause-unique : goal.returns-clause-unique
returns-clause-unique c = fields_one_way
