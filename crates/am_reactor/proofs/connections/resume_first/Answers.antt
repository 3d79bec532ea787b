use Rattle.std.proofs.Common.{refl}
use Rattle.slab.specs.Slab.{with_value}
use Rattle.am_reactor.proofs.Histories.{leads_call, leads_written}
use Rattle.am_reactor.proofs.connections.resume_first.Goals as goal

pub returns-clause-led : goal.returns-clause-led
returns-clause-led g c =
    leads_written g.S.Service _ _ _ c.in_ok-key.key _ _ c.args.connections.now.table c.in_ok-connection.connection.now _ (with_value c.args.connections.now.table c.in_ok-key.key _) refl c.in_ok-connection.ensures.value
    (leads_call g.S.Service _ _ _ _ _ _ _ _ c.resume.ensures refl refl refl refl)
