use Rattle.am_http.specs.Lines.{line_seen}
use Rattle.am_server.specs.Talks.OwnCause.{OutOfMemory}
use Rattle.am_server.proofs.Sayings.{foreign_own, told_own}
use Rattle.am_server.proofs.connection_state.ConnectionState.screen.Goals as goal

pub returns-in-Ok-Foreign-clause-own : goal.returns-in-Ok-Foreign-clause-own
returns-in-Ok-Foreign-clause-own c = foreign_own c.in-Ok-Foreign.what c.in-Ok-Foreign.to_head (line_seen c.refusal.result) c.refusal.ensures

pub returns-in-Err-clause-own : goal.returns-in-Err-clause-own
returns-in-Err-clause-own c = told_own OutOfMemory (line_seen c.refusal-in-Err.result) c.refusal-in-Err.ensures
