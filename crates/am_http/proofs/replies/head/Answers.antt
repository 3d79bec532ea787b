use Rattle.std.proofs.Common.{append_assoc, codes}
use Rattle.std.proofs.lemmas.Result.{IfOk-weaker}
use Rattle.am_http.proofs.replies.head.Goals as goal

pub returns-in-None : goal.returns-in-None
returns-in-None c = IfOk-weaker c.format.result _ _ (λ s e. rw (c.in-None.is, ← c.phrase-phrase.ensures) e) c.format.ensures.ok

pub returns-in-Some : goal.returns-in-Some
returns-in-Some c = IfOk-weaker c.format-in-Some.result _ _ (λ s e. rw (c.in-Some.is, ← c.phrase-phrase.ensures, append_assoc c.in-Some.methods.now (codes "\r\n") (codes "connection: close\r\n\r\n")) e) c.format-in-Some.ensures.ok
