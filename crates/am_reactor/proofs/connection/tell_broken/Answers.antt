use Rattle.std.proofs.Common.{refl}
use Rattle.am_reactor.proofs.Histories.{leads_call}
use Rattle.am_reactor.proofs.connection.tell_broken.Goals as goal

pub returns-clause-led : goal.returns-clause-led
returns-clause-led g c = leads_call g.S.Service _ _ _ _ _ _ _ _ c.broken.ensures refl refl refl refl
