use Rattle.std.proofs.Common.{◌∙◌, ◌++◌, ◌⊎◌, ap, sym, subst, ℕ, List}
use Rattle.std.specs.Option.{option_copied}
use Rattle.am_http.specs.Sessions.{Asks, LacksToAsk, spoken}
use Rattle.am_http.specs.States.{phase_in}
use Rattle.am_http.proofs.Asked.{begins_asking}
use Rattle.am_http.proofs.session.feeding.begin.Goals as goal

pub returns-in-Some-2-clause-says : goal.returns-in-Some-2-clause-says
returns-in-Some-2-clause-says c =
    let piece : List ℕ = c.args.piece.now in
    let said = spoken c.ask_on.result.0 in
    let new = phase_in c.ask_on.result.1 in
    begins_asking piece c.in-Some.first.now said new (sym c.first.ensures.value ∙ ap option_copied c.in-Some.is) c.if-first-lt-LEAST_OF_REQUESTS.false
    (subst (λ (bytes : List ℕ). Asks (bytes ++ piece) said new ⊎ LacksToAsk said new) c.new-in-Some-2.ensures.items c.ask_on.ensures.says)
