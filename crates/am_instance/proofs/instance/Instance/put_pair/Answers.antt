use Rattle.std.proofs.Common.{refl}
use Rattle.am_instance.proofs.HereWorks.{put_pair_copies}
use Rattle.am_instance.proofs.instance.Instance.put_pair.Goals as goal

pub returns-clause-put : goal.returns-clause-put
returns-clause-put c =
    rw (← c.self.view_is) (put_pair_copies _ _ c.args.new c.args.old c.args.reply c.args.now c.made_outcome.result c.in_ok-first.first c.in_ok-first.second c.in_ok-made.made.items
    c.index.result.now c.index-2.result.now c.new-outbox.result c.send_on.new.outbox c.send_on-2.new.outbox
    c.in_ok-made.ensures c.index.ensures c.index-2.ensures c.new-outbox.ensures c.made_outcome.ensures.sent refl refl refl
    c.in_ok-first.ensures.taken c.made_outcome.ensures.reply c.made_outcome.ensures.made c.send_on.ensures c.send_on-2.ensures)
