use Rattle.std.proofs.Common.{length}
use Rattle.am_reactor.specs.Reading.{Hears}
use Rattle.am_reactor.proofs.reading.read_available.Given as goal

abbrev pub invariant-loop : goal.invariant-loop
invariant-loop g l = Hears g.S.Service.does g.C.Stream.arrived g.C.Stream.gone (length l.fn.piece) l.fn.service l.fn.connection l.service l.connection
