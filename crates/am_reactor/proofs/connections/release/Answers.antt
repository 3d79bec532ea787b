use Rattle.std.proofs.Common.{refl}
use Rattle.slab.specs.Slab.{with_value}
use Rattle.am_reactor.proofs.Histories.{leads_call, leads_written}
use Rattle.am_reactor.proofs.connections.release.Goals as goal

pub returns-in-Some-clause-led : goal.returns-in-Some-clause-led
returns-in-Some-clause-led g c =
    leads_written g.S.Service _ _ _ c.args.key _ _ c.args.connections.now.table c.in-Some.connection.now _ (with_value c.args.connections.now.table c.args.key _) refl c.in-Some.ensures.value
    (leads_call g.S.Service _ _ _ _ _ _ _ _ c.release.ensures.did refl refl refl refl)
