use Rattle.am_instance.proofs.Alike.{alike}
use Rattle.am_instance.proofs.laws.equal_views_reply_alike.Goals as goal

pub returns : goal.returns
returns c = λ one other event now reply made maps others same asks replied.
    alike one other event now reply made
    (c.equal_views_are_one.ensures one.silences other.silences now maps.silences others.silences same.silences)
    (c.equal_views_are_one-2.ensures one.log other.log now maps.log others.log same.log)
    same asks replied
