use Rattle.std.proofs.Common.{◌≡◌, ◌≤◌, length}
use Rattle.am_reactor.specs.Exchanges.{ComesBack}
use Rattle.am_reactor.proofs.inbox.hear_on.Given as goal

abbrev pub invariant-loop : goal.invariant-loop
invariant-loop g l = record {
  came : ComesBack (g.C.Stream.arrived l.fn.stream) (g.C.Stream.arrived l.stream) l.fn.answer.items l.answer.items;
  gone : g.C.Stream.gone l.stream ≡ g.C.Stream.gone l.fn.stream;
  within : length l.fn.answer.items ≤ l.most → length l.answer.items ≤ l.most;
}
