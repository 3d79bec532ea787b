use Rattle.am_wire.proofs.Stops.{row_fault_found, row_fails}
use Rattle.am_wire.proofs.Broken.{row_front_found, row_front_read, rows_until_found, rows_until_read, rows_until_one_way, rows_whole_or_until, rows_always, no_message}
use Rattle.am_wire.proofs.laws.row_faults_are_the_grammar.Goals as goal

pub returns-clause-front : goal.returns-clause-front
returns-clause-front c = λ at len bytes message. (row_front_found bytes at message len, row_front_read bytes at message len)

pub returns-clause-stop : goal.returns-clause-stop
returns-clause-stop c = λ at bytes fault. (row_fault_found at bytes fault, row_fails at bytes fault)

pub returns-clause-found : goal.returns-clause-found
returns-clause-found c = rows_until_found

pub returns-clause-read : goal.returns-clause-read
returns-clause-read c = rows_until_read

pub returns-clause-unique : goal.returns-clause-unique
returns-clause-unique c = rows_until_one_way

pub returns-clause-apart : goal.returns-clause-apart
returns-clause-apart c = rows_whole_or_until

pub returns-clause-always : goal.returns-clause-always
returns-clause-always c = rows_always

pub returns-clause-no_message : goal.returns-clause-no_message
returns-clause-no_message c = λ at bytes message text rest fault stops. no_message bytes at fault stops message text rest
