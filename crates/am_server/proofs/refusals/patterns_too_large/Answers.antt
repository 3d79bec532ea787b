use Rattle.am_http.specs.Lines.{line_seen}
use Rattle.am_server.proofs.Sayings.{patterns_own}
use Rattle.am_server.proofs.refusals.patterns_too_large.Goals as goal

pub returns : goal.returns
returns c = patterns_own (line_seen c.refusal.result) c.refusal.ensures
