use Rattle.std.proofs.Common.{ℕ, List, ◌++◌, IfOk, subst}
use Rattle.am_http.specs.Hosts.{IsScreened, texts}
use Rattle.am_http.proofs.session.screening.screened.Goals as goal

pub returns-in-Asking : goal.returns-in-Asking
returns-in-Asking c =
    let piece : List ℕ = c.args.piece.now in
    rw c.in-Asking.is (subst (λ (bytes : List ℕ). IfOk c.screen_on.result (IsScreened (texts c.args.names.now) (bytes ++ piece))) c.as_slice.ensures.value c.screen_on.ensures)
