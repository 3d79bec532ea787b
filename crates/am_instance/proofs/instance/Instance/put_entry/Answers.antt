use Rattle.std.proofs.Common.{refl}
use Rattle.am_instance.proofs.HereWorks.{put_entry}
use Rattle.am_instance.proofs.instance.Instance.put_entry.Goals as goal

pub returns-clause-put : goal.returns-clause-put
returns-clause-put c =
    let sent = rw c.new-outbox.ensures at c.send_entry_on.ensures in
    let all = rw (← c.logged_outcome.ensures.sent) at sent in
    rw (← c.self.view_is) (put_entry _ _ c.args.entry c.in_ok-copy.copy c.args.now c.logged_outcome.result c.in_ok-taken.taken c.is_changed.result c.in_ok-copy.ensures c.is_changed.ensures refl refl refl
    c.in_ok-taken.ensures.taken c.logged_outcome.ensures.reply c.logged_outcome.ensures.silences c.logged_outcome.ensures.log all)
