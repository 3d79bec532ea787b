use Rattle.am_memberlist.proofs.Again.{request_again}
use Rattle.am_memberlist.proofs.laws.requests_are_read_again.Goals as goal

pub returns : goal.returns
returns c = request_again
