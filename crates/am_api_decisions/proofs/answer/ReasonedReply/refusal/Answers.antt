use Rattle.std.proofs.Common.{◌≡◌, ℕ, List}
use Rattle.am_http.specs.Lines.{RefusalLine, line_seen}
use Rattle.am_api_silences.proofs.Telling.{says_weaker}
use Rattle.am_api_silences.specs.Replies.{line_bytes}
use Rattle.am_api_decisions.proofs.answer.ReasonedReply.refusal.Goals as goal

pub returns-clause-reason : goal.returns-clause-reason
returns-clause-reason c =
    says_weaker (λ (bytes : List ℕ). bytes ≡ line_bytes (line_seen c.args.line.now)) (λ bytes. (line : RefusalLine) × (bytes ≡ line_bytes line))
    (λ bytes is. (line_seen c.args.line.now, is)) c.tell.result c.tell.ensures
