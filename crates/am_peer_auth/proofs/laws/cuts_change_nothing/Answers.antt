use Rattle.am_peer_auth.proofs.Cuts.{cut}
use Rattle.am_peer_auth.proofs.laws.cuts_change_nothing.Goals as goal

pub returns : goal.returns
returns c = cut
