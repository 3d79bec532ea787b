use Rattle.std.proofs.Common.{Ok, Option, ℕ, ap, ◌∙◌}
use Rattle.am_api_decisions.proofs.notice.read_object.Goals as goal

pub returns-clause-read : goal.returns-clause-read
returns-clause-read c =
    let told = c.in_ok-notice.notice in
    record {
      notified = c.in_ok-notice.ensures.read ∙ ap (λ (moment : Option ℕ). Ok (record told { decided_at = moment })) c.in_ok-notice.ensures.undated;
      decided_at = c.in_ok-decided_at.ensures.read;
    }
