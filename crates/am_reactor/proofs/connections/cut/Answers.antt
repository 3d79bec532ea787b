use Rattle.std.proofs.Common.{refl}
use Rattle.slab.specs.Slab.{with_value}
use Rattle.am_reactor.specs.History.{lines}
use Rattle.am_reactor.proofs.Histories.{closes_one, leads_closes, leads_written}
use Rattle.am_reactor.proofs.connections.cut.Goals as goal
use Rattle.am_reactor.proofs.connections.cut.Goals.{in-Some, in_default}

pub returns-clause-led : goal.returns-clause-led
returns-clause-led g c first begun leads =
    leads_closes g.S.Service _ _ _ c.match-get_mut.service (lines c.match-get_mut.connections.table) _ (closes_one _ _ _ c.remove.ensures.removed) first begun
    (elim c.match-get_mut.branch [
      | in-Some w ↦ rw w.service-is (rw w.connections-is
          (leads_written g.S.Service _ _ _ c.args.key _ _ c.args.connections.now.table w.in-Some.connection.now _ (with_value c.args.connections.now.table c.args.key _) refl
          w.in-Some.ensures.value w.tell_broken.ensures.led first begun leads))
      | in_default w ↦ rw w.service-is (rw w.connections-is leads)
    ])
