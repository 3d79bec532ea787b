use Rattle.std.proofs.Common.{◌∙◌, refl}
use Rattle.am_reactor.proofs.Drives.{comes_none, comes_on}
use Rattle.am_reactor.proofs.awaiting.hear_awaited.Goals as goal

pub loop-init : goal.loop-init
loop-init g c = record { came = comes_none _ _; gone = refl; within = λ fits. fits }

pub loop-preserved : goal.loop-preserved
loop-preserved g c = record {
  came = comes_on _ _ _ _ _ _ c.loop.invariant.came c.in_ok-read_piece.ensures.came;
  gone = c.read_piece.ensures.gone ∙ c.loop.invariant.gone;
  within = λ fits. c.read_piece.ensures.within (c.loop.invariant.within fits);
}

pub returns-in-Nothing-clause-came : goal.returns-in-Nothing-clause-came
returns-in-Nothing-clause-came g c = comes_on _ _ _ _ _ _ c.loop.invariant.came c.in_ok-read_piece.ensures.came
