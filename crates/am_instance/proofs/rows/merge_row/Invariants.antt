use Rattle.am_wire.specs.Inputs.{messages_of}
use Rattle.am_instance.specs.Configs.{places_but}
use Rattle.am_instance.specs.Deliveries.{before_fault}
use Rattle.am_instance.specs.Sendings.{addressed, delta}
use Rattle.am_instance.proofs.TakenRows.{HasTaken}
use Rattle.am_instance.proofs.rows.merge_row.Given as goal

abbrev pub invariant-loop-message : goal.invariant-loop-message
invariant-loop-message g l =
    let route = l.taking.route in
    HasTaken g.V.Version.seen g.V.Key.Ord.cmp (λ v. addressed (places_but route.members route.own route.origin) (delta l.taking.key (g.V.Version.seen v).content))
    l.taking.moment l.initial.held (before_fault (messages_of (g.V.Message.reads l.taking.unknown) l.row)) l.message-iterator l.held l.initial.taken l.taken l.initial.outbox l.outbox
