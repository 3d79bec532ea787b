use Rattle.std.proofs.Common.{◌≡◌}
use Rattle.am_reactor.specs.SendBuffer.{Empties}
use Rattle.am_reactor.proofs.send_buffer.SendBuffer.send_on.Given as goal

abbrev pub invariant-loop : goal.invariant-loop
invariant-loop g l = record {
  out : Empties (g.C.Stream.gone l.fn.stream) (g.C.Stream.gone l.stream) l.fn.self l.self;
  unread : g.C.Stream.arrived l.stream ≡ g.C.Stream.arrived l.fn.stream;
}
