use Rattle.std.proofs.Common.{drop}
use Rattle.am_instance.specs.Configs.{peers_but}
use Rattle.am_instance.specs.Deliveries.{before_fault, rows_in}
use Rattle.am_instance.proofs.Arrivals.{HasDelivered}
use Rattle.am_instance.proofs.instance.Instance.take_parts.Given as goal

abbrev pub invariant-loop-part : goal.invariant-loop-part
invariant-loop-part l =
    HasDelivered (peers_but l.initial.self.config l.sender) l.now l.initial.self (before_fault (rows_in l.initial.self.config.unknown l.parts)) (rows_in l.initial.self.config.unknown (drop l.part-index l.parts)) l.self l.initial.taken l.taken l.initial.outbox l.outbox
