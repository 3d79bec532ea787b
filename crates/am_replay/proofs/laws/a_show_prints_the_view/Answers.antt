use Rattle.am_replay.proofs.Viewed.{show_text}
use Rattle.am_replay.proofs.laws.a_show_prints_the_view.Goals as goal

pub returns : goal.returns
returns c = show_text
