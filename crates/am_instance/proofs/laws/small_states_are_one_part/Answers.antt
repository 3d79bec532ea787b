use Rattle.am_instance.proofs.AllHandedOut.{small_whole}
use Rattle.am_instance.proofs.laws.small_states_are_one_part.Goals as goal

pub returns : goal.returns
returns c most silences log handed fits hands = small_whole most silences log handed.state handed.next fits hands
