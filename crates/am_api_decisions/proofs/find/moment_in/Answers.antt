use Rattle.std.proofs.Common.{◌≡◌}
use Rattle.am_api_decisions.proofs.find.moment_in.Goals as goal

pub returns-clause-only : goal.returns-clause-only
returns-clause-only c = λ m h.
    let same : h.text ≡ c.in_ok-text.text.now = cc (c.in_ok-text.ensures, h.here) in
    let spelled = rw same at h.spelled in
    c.read_moment.ensures.only m spelled
