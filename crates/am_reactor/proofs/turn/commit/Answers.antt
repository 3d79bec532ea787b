use Rattle.am_reactor.proofs.Histories.{acts_once}
use Rattle.am_reactor.proofs.turn.commit.Goals as goal

pub returns-then-has_uncommitted-clause-acted : goal.returns-then-has_uncommitted-clause-acted
returns-then-has_uncommitted-clause-acted g c = acts_once _ _ _ c.commit.ensures.acted
