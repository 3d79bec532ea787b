use Rattle.am_reactor.proofs.Moves.{none_if_more}
use Rattle.am_reactor.proofs.peers.vacant.Goals as goal

pub loop-preserved : goal.loop-preserved
loop-preserved g c = λ place. rw c.push.ensures.items (none_if_more _ _ c.loop.invariant place)
