use Rattle.am_peer_auth.proofs.Joined.{apart}
use Rattle.am_peer_auth.proofs.laws.messages_are_told_apart.Goals as goal

pub returns : goal.returns
returns c = apart
