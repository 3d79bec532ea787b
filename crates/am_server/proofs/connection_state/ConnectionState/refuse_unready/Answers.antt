use Rattle.am_http.specs.Lines.{line_seen}
use Rattle.am_server.specs.Talks.OwnCause.{NotReady}
use Rattle.am_server.proofs.Sayings.{headed_own}
use Rattle.am_server.proofs.connection_state.ConnectionState.refuse_unready.Goals as goal

pub returns : goal.returns
returns c = c.refuse.ensures.refused (headed_own NotReady c.match-said.method.now (line_seen c.new.result) (line_seen c.told_to.result) c.new.ensures c.told_to.ensures)
