use Rattle.am_wire.proofs.Exact.{numbers_found, numbers_read, numbers_one_way, numbers_written}
use Rattle.am_wire.proofs.laws.packed_numbers_are_the_grammar.Goals as goal

pub returns-clause-found : goal.returns-clause-found
returns-clause-found c = numbers_found

pub returns-clause-read : goal.returns-clause-read
returns-clause-read c = numbers_read

pub returns-clause-unique : goal.returns-clause-unique
returns-clause-unique c = numbers_one_way

pub returns-clause-written : goal.returns-clause-written
returns-clause-written c = λ numbers. numbers_written numbers 0
