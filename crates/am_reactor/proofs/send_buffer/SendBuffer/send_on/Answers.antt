use Rattle.std.proofs.Common.{◌∙◌, refl}
use Rattle.am_reactor.proofs.Sends.{empties_none, empties_on}
use Rattle.am_reactor.proofs.send_buffer.SendBuffer.send_on.Goals as goal

pub loop-init : goal.loop-init
loop-init g c = record { out = empties_none _ _; unread = refl }

pub loop-preserved : goal.loop-preserved
loop-preserved g c = record {
  out = empties_on _ _ _ _ _ _ c.loop.invariant.out c.write_once.ensures.out;
  unread = c.write_once.ensures.unread ∙ c.loop.invariant.unread;
}

pub returns-in-Nothing-clause-out : goal.returns-in-Nothing-clause-out
returns-in-Nothing-clause-out g c = empties_on _ _ _ _ _ _ c.loop.invariant.out c.write_once.ensures.out

pub returns-in-Failed-clause-out : goal.returns-in-Failed-clause-out
returns-in-Failed-clause-out g c = empties_on _ _ _ _ _ _ c.loop.invariant.out c.write_once.ensures.out
