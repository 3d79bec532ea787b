use Rattle.std.proofs.Common.{◌≡◌, ◌-◌}
use Rattle.am_memberlist.specs.Messages.{behind_nodes}
use Rattle.am_memberlist.proofs.answer.behind_nodes.Given as goal

abbrev pub invariant-loop : goal.invariant-loop
invariant-loop l = behind_nodes (l.count - l.counter) l.rest ≡ behind_nodes l.count l.bytes
