use Rattle.am_http.proofs.Cuts.{pieces_join}
use Rattle.am_http.proofs.session.laws.pieces_are_their_bytes.Goals as goal

pub returns : goal.returns
returns c = pieces_join
