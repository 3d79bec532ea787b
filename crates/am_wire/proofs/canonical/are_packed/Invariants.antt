use Rattle.am_wire.proofs.Passings.{HasPassed}
use Rattle.am_wire.proofs.canonical.are_packed.Given as goal

abbrev pub invariant-loop : goal.invariant-loop
invariant-loop l = HasPassed l.part l.reader
