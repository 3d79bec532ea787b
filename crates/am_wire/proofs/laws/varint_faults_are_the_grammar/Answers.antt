use Rattle.am_wire.proofs.Stops.{number_fault_found, number_fails}
use Rattle.am_wire.proofs.Broken.{no_number}
use Rattle.am_wire.proofs.laws.varint_faults_are_the_grammar.Goals as goal

pub returns-clause-exact : goal.returns-clause-exact
returns-clause-exact c = λ at bytes fault. (number_fault_found at bytes fault, number_fails at bytes fault)

pub returns-clause-no_number : goal.returns-clause-no_number
returns-clause-no_number c = λ at n bytes text rest fault stops. no_number at bytes fault stops n text rest
