use Rattle.std.proofs.Common.{refl}
use Rattle.slab.specs.Slab.{with_value}
use Rattle.am_reactor.proofs.Histories.{leads_call, leads_written}
use Rattle.am_reactor.proofs.connections.abandon_wait.Goals as goal

pub returns-clause-led : goal.returns-clause-led
returns-clause-led g c =
    leads_written g.S.Service _ _ _ c.args.key _ _ c.args.connections.now.table c.in-Some.waiting.now _ (with_value c.args.connections.now.table c.args.key _) refl c.in-Some.ensures.value
    (leads_call g.S.Service _ _ _ _ _ _ _ _ c.abandon_wait.ensures refl refl refl refl)
