use Rattle.am_wire.proofs.Stops.{field_fault_found, field_fails}
use Rattle.am_wire.proofs.Broken.{field_front_found, field_front_read, fields_until_found, fields_until_read, fields_until_one_way, fields_whole_or_until, fields_always, no_field}
use Rattle.am_wire.proofs.laws.field_faults_are_the_grammar.Goals as goal

pub returns-clause-front : goal.returns-clause-front
returns-clause-front c = λ fits at len bytes e. (field_front_found fits at bytes e len, field_front_read fits at bytes e len)

pub returns-clause-stop : goal.returns-clause-stop
returns-clause-stop c = λ fits at bytes fault. (field_fault_found fits at bytes fault, field_fails fits at bytes fault)

pub returns-clause-found : goal.returns-clause-found
returns-clause-found c = fields_until_found

pub returns-clause-read : goal.returns-clause-read
returns-clause-read c = fields_until_read

pub returns-clause-unique : goal.returns-clause-unique
returns-clause-unique c = fields_until_one_way

pub returns-clause-apart : goal.returns-clause-apart
returns-clause-apart c = fields_whole_or_until

pub returns-clause-always : goal.returns-clause-always
returns-clause-always c = fields_always

pub returns-clause-no_field : goal.returns-clause-no_field
returns-clause-no_field c = λ fits at bytes text rest e fault stops. no_field fits at bytes fault stops e text rest
