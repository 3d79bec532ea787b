use Rattle.std.proofs.Common.{refl, []}
use Rattle.am_reactor.proofs.Histories.{throws_more, throws_none}
use Rattle.am_reactor.proofs.lingering.drain.Goals as goal
use Rattle.am_reactor.proofs.lingering.drain.Goals.{in-Bytes, in-Interrupted}

pub loop-init : goal.loop-init
loop-init g c = ([], throws_none _ _ c.args.connection.now c.requires)

pub loop-preserved : goal.loop-preserved
loop-preserved g c = elim c.match-read_once.branch [
  | in-Bytes w ↦ rw w.connection-is (throws_more _ _ _ _ _ _ _ c.loop.invariant.1 refl c.read_once.ensures.came c.read_once.ensures.gone refl)
  | in-Interrupted w ↦ rw w.connection-is (throws_more _ _ _ _ _ _ _ c.loop.invariant.1 refl c.read_once.ensures.came c.read_once.ensures.gone c.loop.invariant.1.leaves)
]

pub returns-in-Nothing-clause-thrown : goal.returns-in-Nothing-clause-thrown
returns-in-Nothing-clause-thrown g c = throws_more _ _ _ _ _ _ _ c.loop.invariant.1 refl c.read_once.ensures.came c.read_once.ensures.gone c.loop.invariant.1.leaves

pub returns-in-End-clause-thrown : goal.returns-in-End-clause-thrown
returns-in-End-clause-thrown g c = throws_more _ _ _ _ _ _ _ c.loop.invariant.1 refl c.read_once.ensures.came c.read_once.ensures.gone c.loop.invariant.1.leaves
