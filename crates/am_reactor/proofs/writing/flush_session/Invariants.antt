use Rattle.std.proofs.Common.{◌≡◌}
use Rattle.am_reactor.specs.Sending.{SendsOn}
use Rattle.am_reactor.proofs.writing.flush_session.Given as goal

abbrev pub invariant-loop : goal.invariant-loop
invariant-loop g l = record {
  out : SendsOn g.S.Service.does g.S.Service.pending l.fn.service l.fn.session l.service l.session (g.C.Stream.gone l.fn.stream) (g.C.Stream.gone l.stream)
      l.fn.written l.written;
  unread : g.C.Stream.arrived l.stream ≡ g.C.Stream.arrived l.fn.stream;
}
