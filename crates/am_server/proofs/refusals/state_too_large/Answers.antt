use Rattle.am_http.specs.Lines.{line_seen}
use Rattle.am_server.specs.Talks.OwnCause.{StateTooLarge}
use Rattle.am_server.proofs.Sayings.{told_own}
use Rattle.am_server.proofs.refusals.state_too_large.Goals as goal

pub returns : goal.returns
returns c = told_own StateTooLarge (line_seen c.new.result) c.new.ensures
