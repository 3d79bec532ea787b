use Rattle.am_http.specs.Lines.{line_seen}
use Rattle.am_server.specs.Talks.OwnCause.{TooManyPatterns}
use Rattle.am_server.proofs.Sayings.{told_own}
use Rattle.am_server.proofs.refusals.too_many_patterns.Goals as goal

pub returns : goal.returns
returns c = told_own TooManyPatterns (line_seen c.new.result) c.new.ensures
