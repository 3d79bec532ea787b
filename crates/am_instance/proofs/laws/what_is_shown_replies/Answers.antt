use Rattle.am_instance.proofs.Bare.{bare_reply}
use Rattle.am_instance.proofs.laws.what_is_shown_replies.Goals as goal

pub returns : goal.returns
returns c = λ stand silences log event now reply made maps of_id of_key asks replied.
    bare_reply stand silences log event now reply made
    (c.live_versions_are_the_view.ensures stand.silences silences now maps.silences of_id)
    (c.live_versions_are_the_view-2.ensures stand.log log now maps.log of_key)
    of_id of_key asks replied
