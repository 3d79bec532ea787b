use Rattle.std.proofs.Common.{ℕ, List, subst, inl}
use Rattle.am_http.specs.Sessions.{Asks, spoken}
use Rattle.am_http.specs.States.{phase_in}
use Rattle.am_http.proofs.session.asking.ask_on.Goals as goal

pub returns-in-Ok-clause-says : goal.returns-in-Ok-clause-says
returns-in-Ok-clause-says c = inl (subst (λ (bytes : List ℕ). Asks bytes (spoken c.ask.result.0) (phase_in c.ask.result.1)) c.in-Ok.ensures.items c.ask.ensures.says)
