use Rattle.std.proofs.Common.{ℕ, List, ◌∙◌, ◌++◌, ap, subst}
use Rattle.am_http.specs.Hosts.{IsScreened, texts}
use Rattle.am_http.proofs.session.screening.screen_on.Goals as goal

pub returns : goal.returns
returns c =
    let piece : List ℕ = c.args.piece.now in
    subst (λ (bytes : List ℕ). IsScreened (texts c.args.names.now) bytes c.screen.result)
    (c.as_slice.ensures.value ∙ c.in_ok-extend_from_slice.ensures.items ∙ ap (λ (bytes : List ℕ). bytes ++ piece) c.in_ok-joined.ensures.items) c.screen.ensures
