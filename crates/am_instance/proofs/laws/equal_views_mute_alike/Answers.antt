use Rattle.am_instance.proofs.Muted.{mute_alike}
use Rattle.am_instance.proofs.laws.equal_views_mute_alike.Goals as goal

pub returns : goal.returns
returns c = λ dialect one other now labels ids broken others broken_too maps other_maps same first second id muted sound.
    mute_alike dialect labels now one.silences other.silences ids broken others broken_too
    (c.equal_views_are_one.ensures one.silences other.silences now maps.silences other_maps.silences same.silences) first second id muted sound
