use Rattle.std.proofs.Common.{[], refl}
use Rattle.std.proofs.lemmas.Result.{IfOk-weaker}
use Rattle.am_gossip.proofs.Fronts.{front_bad}
use Rattle.am_gossip.proofs.Waiting.{waits_in_header, waits_in_payload, between}
use Rattle.am_gossip.proofs.reading.read_frame.Goals as goal

pub returns-in-Err-clause-read : goal.returns-in-Err-clause-read
returns-in-Err-clause-read c = front_bad _ _ (c.in-Err.ensures [] refl)

pub returns-in_default : goal.returns-in_default
returns-in_default c = record { read = waits_in_header _ _ c.in_default.not-InPayload (c.in-Ok.ensures [] refl); refused = tt }

pub returns-then-bytes-len-clause-read : goal.returns-then-bytes-len-clause-read
returns-then-bytes-len-clause-read c = waits_in_payload c.in-InPayload.head _ (rw c.in-InPayload.is at (c.in-Ok.ensures [] refl)) c.if-bytes-len.true

pub returns-clause-read : goal.returns-clause-read
returns-clause-read c =
    let w = between c.in-InPayload.head c.args.bytes.now (rw c.in-InPayload.is at (c.in-Ok.ensures [] refl)) c.if-bytes-len.false in
    IfOk-weaker c.read_whole.result _ _ (λ read is. is _ w) c.read_whole.ensures.read
