use Rattle.am_wire.proofs.Broken.{numbers_until_found, numbers_until_read, numbers_until_one_way, numbers_always}
use Rattle.am_wire.proofs.laws.packed_faults_are_the_grammar.Goals as goal

pub returns-clause-found : goal.returns-clause-found
returns-clause-found c = numbers_until_found

pub returns-clause-read : goal.returns-clause-read
returns-clause-read c = numbers_until_read

pub returns-clause-unique : goal.returns-clause-unique
returns-clause-unique c = numbers_until_one_way

pub returns-clause-always : goal.returns-clause-always
returns-clause-always c = numbers_always
