use Rattle.std.proofs.Common.{refl}
use Rattle.am_instance.proofs.HereWorks.{put_one_copy}
use Rattle.am_instance.proofs.instance.Instance.put_one.Goals as goal

pub returns-clause-put : goal.returns-clause-put
returns-clause-put c =
    rw (← c.self.view_is) (put_one_copy _ _ c.args.version c.args.reply c.args.now c.made_outcome.result c.in_ok-taken.taken c.in_ok-made.made.items c.index.result.now c.new-outbox.result c.send_on.new.outbox
    c.in_ok-made.ensures c.index.ensures c.new-outbox.ensures c.made_outcome.ensures.sent refl refl refl
    c.in_ok-taken.ensures.taken c.made_outcome.ensures.reply c.made_outcome.ensures.made c.send_on.ensures)
