use Rattle.std.proofs.Common.{ap}
use Rattle.am_server.specs.Talks.{Talk}
use Rattle.am_server.proofs.Sayings.{keeps_line, line_made}
use Rattle.am_server.proofs.connection_state.ConnectionState.say_line.Goals as goal

pub returns-clause-keeps : goal.returns-clause-keeps
returns-clause-keeps c = λ own.
    keeps_line c.finish.result _ _ (ap (λ (t : Talk). t.saying) c.say.ensures.said) (line_made _ _ _ c.refuse-answer.ensures own c.finish.ensures)
