use Rattle.std.proofs.Common.{◌∙◌, refl}
use Rattle.am_reactor.proofs.Sends.{sends_none, sends_nothing, sends_part}
use Rattle.am_reactor.proofs.writing.flush_session.Goals as goal
use Rattle.am_reactor.proofs.writing.flush_session.Goals.{in-Part, in-Interrupted}

pub loop-init : goal.loop-init
loop-init g c = record { out = sends_none _ _ _ _ _ _; unread = refl }

pub loop-preserved : goal.loop-preserved
loop-preserved g c =
    let h = c.loop.invariant in
    let t = c.write_some.ensures in
    elim c.match-write_some.branch [
      | in-Part w ↦ record {
        out = sends_part _ _ _ _ _ _ _ _ w.in-Part.count _ _ _ _ _ _ h.out (rw w.in-Part.is at t.within) (rw w.in-Part.is at t.did) (rw w.in-Part.is at t.out) (w.written-is ∙ w.count_on.ensures);
        unread = t.unread ∙ h.unread;
      }
      | in-Interrupted w ↦ record {
        out = sends_nothing _ _ _ _ _ _ _ _ _ _ _ _ _ _ h.out (rw w.in-Interrupted.is at t.did) (rw w.in-Interrupted.is at t.out) w.written-is;
        unread = t.unread ∙ h.unread;
      }
    ]
