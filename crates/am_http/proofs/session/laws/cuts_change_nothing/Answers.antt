use Rattle.am_http.proofs.Cuts.{cut}
use Rattle.am_http.proofs.session.laws.cuts_change_nothing.Goals as goal

pub returns : goal.returns
returns c = cut
