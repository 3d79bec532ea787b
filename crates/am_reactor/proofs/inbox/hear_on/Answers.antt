use Rattle.std.proofs.Common.{◌∙◌, refl}
use Rattle.am_reactor.proofs.Drives.{breaks_off, breaks_off_whole, comes_none, comes_on, on_err}
use Rattle.am_reactor.proofs.inbox.hear_on.Goals as goal

pub loop-init : goal.loop-init
loop-init g c = record { came = comes_none _ _; gone = refl; within = λ fits. fits }

pub loop-preserved : goal.loop-preserved
loop-preserved g c = record {
  came = comes_on _ _ _ _ _ _ c.loop.invariant.came c.in_ok-read_piece.ensures.came;
  gone = c.read_piece.ensures.gone ∙ c.loop.invariant.gone;
  within = λ fits. c.read_piece.ensures.within (c.loop.invariant.within fits);
}

pub returns-in_err-read_piece-clause-failed : goal.returns-in_err-read_piece-clause-failed
returns-in_err-read_piece-clause-failed g c = on_err _ (breaks_off _ _ _ _ _ _ _ c.loop.invariant.came c.in_err-read_piece.ensures.dropped.1 c.in_err-read_piece.ensures.kept)

pub returns-in_err-read_piece-clause-longer : goal.returns-in_err-read_piece-clause-longer
returns-in_err-read_piece-clause-longer g c = (c.loop.invariant.came.bytes, c.in_err-read_piece.ensures.kept ∙ c.loop.invariant.came.behind)

pub returns-in-End-clause-came : goal.returns-in-End-clause-came
returns-in-End-clause-came g c = comes_on _ _ _ _ _ _ c.loop.invariant.came c.in_ok-read_piece.ensures.came

pub returns-in-End-clause-longer : goal.returns-in-End-clause-longer
returns-in-End-clause-longer g c = let all = comes_on _ _ _ _ _ _ c.loop.invariant.came c.in_ok-read_piece.ensures.came in (all.bytes, all.behind)

pub returns-in-Nothing-clause-came : goal.returns-in-Nothing-clause-came
returns-in-Nothing-clause-came g c = comes_on _ _ _ _ _ _ c.loop.invariant.came c.in_ok-read_piece.ensures.came

pub returns-in-Nothing-clause-longer : goal.returns-in-Nothing-clause-longer
returns-in-Nothing-clause-longer g c = let all = comes_on _ _ _ _ _ _ c.loop.invariant.came c.in_ok-read_piece.ensures.came in (all.bytes, all.behind)

pub returns-in-Failed-clause-failed : goal.returns-in-Failed-clause-failed
returns-in-Failed-clause-failed g c = breaks_off_whole _ _ _ _ (comes_on _ _ _ _ _ _ c.loop.invariant.came c.in_ok-read_piece.ensures.came)

pub returns-in-Failed-clause-longer : goal.returns-in-Failed-clause-longer
returns-in-Failed-clause-longer g c = let all = comes_on _ _ _ _ _ _ c.loop.invariant.came c.in_ok-read_piece.ensures.came in (all.bytes, all.behind)

pub returns-clause-came : goal.returns-clause-came
returns-clause-came g c = c.loop.invariant.came

pub returns-clause-longer : goal.returns-clause-longer
returns-clause-longer g c = (c.loop.invariant.came.bytes, c.loop.invariant.came.behind)
