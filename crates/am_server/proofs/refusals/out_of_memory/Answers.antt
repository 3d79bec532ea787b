use Rattle.am_http.specs.Lines.{line_seen}
use Rattle.am_server.specs.Talks.OwnCause.{OutOfMemory}
use Rattle.am_server.proofs.Sayings.{told_own}
use Rattle.am_server.proofs.refusals.out_of_memory.Goals as goal

pub returns : goal.returns
returns c = told_own OutOfMemory (line_seen c.refusal.result) c.refusal.ensures
