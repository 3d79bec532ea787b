use Rattle.std.proofs.Common.{◌∙◌, sym}
use Rattle.am_store.proofs.Appended.{committed}
use Rattle.am_store.proofs.log.StateLog.commit.Goals as goal
use Rattle.am_store.proofs.log.StateLog.commit.Goals.{in-Some, in-None}

pub returns-in-Ok-clause-ok : goal.returns-in-Ok-clause-ok
returns-in-Ok-clause-ok c =
    elim c.match-self.branch [
      | in-Some w ↦
          let acknowledged = rw (sym w.committed-is ∙ c.in-Ok.is) at w.commit-committed.ensures.acknowledged in
          record {
            on_disk = rw (w.self-is, w.in-Some.is) (committed w.in-Some.journal w.commit-committed.new.self _ _ w.deref.ensures.value acknowledged);
            waiting = c.clear.ensures.items;
          }
      | in-None w ↦ let refused = w.committed-is in let done = c.in-Ok.is in cc
    ]
