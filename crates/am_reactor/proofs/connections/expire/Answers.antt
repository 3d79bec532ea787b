use Rattle.std.proofs.Common.{rules}
use Rattle.am_reactor.proofs.Histories.{leads_closes}
use Rattle.am_reactor.proofs.connections.expire.Goals as goal

pub returns : goal.returns
returns g c first begun leads = leads_closes g.S.Service _ _ _ _ _ _ c.expire_quiet.ensures first begun (search rules)
