use Rattle.am_http.specs.Lines.{line_seen}
use Rattle.am_server.specs.Talks.OwnCause.{FilterTooLarge}
use Rattle.am_server.proofs.Sayings.{told_own}
use Rattle.am_server.proofs.refusals.filter_too_large.Goals as goal

pub returns : goal.returns
returns c = told_own FilterTooLarge (line_seen c.refusal.result) c.refusal.ensures
