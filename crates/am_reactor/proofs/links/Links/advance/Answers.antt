use Rattle.am_reactor.proofs.Moves.{not_none}
use Rattle.am_reactor.proofs.links.Links.advance.Goals as goal

pub returns-in-None : goal.returns-in-None
returns-in-None g c = absurd (not_none c.args.self.now.«open».items c.args.peer _ c.index_mut.ensures.value c.in-None.is c.requires)
