use Rattle.std.proofs.Common.{ap}
use Rattle.am_api_decisions.specs.Entries.{Telling}
use Rattle.am_server.specs.Talks.{Talk}
use Rattle.am_server.specs.Talks.OwnCause.{OutOfMemory}
use Rattle.am_server.proofs.Calls.{log_given, log_goes_on, own_replied, put_given, told_given}
use Rattle.am_server.proofs.Sayings.{told_own}
use Rattle.am_server.proofs.connection_state.ConnectionState.resume_log.Goals as goal

pub returns-then-is_written-clause-given : goal.returns-then-is_written-clause-given
returns-then-is_written-clause-given c = λ request start end silent came.
    log_given c.args.writing _ request start end _ _ silent (ap (λ (t : Talk). t.saying) c.say.ensures.said) c.finish.ensures came

pub returns-in-Ok-clause-given : goal.returns-in-Ok-clause-given
returns-in-Ok-clause-given c = λ request start end silent came.
    put_given _ request start end _ _ silent c.put_off.ensures.puts
    (log_goes_on request c.args.writing c.in-Ok.writing (ap (λ (w : Telling). w.rows) c.in-Ok.ensures.written) came)

pub returns-in-Err-clause-given : goal.returns-in-Err-clause-given
returns-in-Err-clause-given c = λ request start end silent came.
    told_given request _ start end _ _ silent c.refuse.ensures.told (own_replied request _ start end (told_own OutOfMemory _ c.in-Err.ensures.refused))
