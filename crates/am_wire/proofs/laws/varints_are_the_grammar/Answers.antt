use Rattle.std.proofs.Common.{arith}
use Rattle.am_wire.specs.RoundTrip.Varints.{varint_read, shortest_spells}
use Rattle.am_wire.proofs.Spelled.{read_spells, varint_found}
use Rattle.am_wire.proofs.Faults.{cut_fails, long_fails, cut_found, long_found}
use Rattle.am_wire.proofs.Exact.{shortest_least, varints_one_way}
use Rattle.am_wire.proofs.laws.varints_are_the_grammar.Goals as goal

pub returns-clause-found : goal.returns-clause-found
returns-clause-found c = λ at n len bytes h. ((read_spells at 9 bytes (n, len) h).within, varint_found at bytes (n, len) h)

pub returns-clause-read : goal.returns-clause-read
returns-clause-read c = varint_read

pub returns-clause-cut : goal.returns-clause-cut
returns-clause-cut c = λ at bytes. (
  λ h. let is = cut_found at 9 bytes h in (omega (arith, is.few), is.go_on),
  λ h. cut_fails at 9 bytes (record { few = omega (arith, h.0); go_on = h.1 }),
)

pub returns-clause-long : goal.returns-clause-long
returns-clause-long c = λ at bytes. (
  λ h. let is = long_found at 9 bytes h in (is.enough, is.go_on, is.much),
  λ h. long_fails at 9 bytes (record { enough = h.0; go_on = h.1; much = h.2 }),
)

pub returns-clause-written : goal.returns-clause-written
returns-clause-written c = shortest_spells

pub returns-clause-shortest : goal.returns-clause-shortest
returns-clause-shortest c = shortest_least

pub returns-clause-unique : goal.returns-clause-unique
returns-clause-unique c = varints_one_way
