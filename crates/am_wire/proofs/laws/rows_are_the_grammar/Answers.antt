use Rattle.am_wire.proofs.Exact.{rows_found, rows_read, rows_one_way, rows_written}
use Rattle.am_wire.proofs.laws.rows_are_the_grammar.Goals as goal

pub returns-clause-found : goal.returns-clause-found
returns-clause-found c = rows_found

pub returns-clause-read : goal.returns-clause-read
returns-clause-read c = rows_read

pub returns-clause-unique : goal.returns-clause-unique
returns-clause-unique c = rows_one_way

pub returns-clause-written : goal.returns-clause-written
returns-clause-written c = λ messages. rows_written messages 0
