use Rattle.std.proofs.lemmas.Result.{err_from_is_err_and}
use Rattle.am_gossip.proofs.Waiting.{bad_before, payload_before}
use Rattle.am_gossip.proofs.header.read_header.Goals as goal

pub returns-in-InPayload : goal.returns-in-InPayload
returns-in-InPayload c = λ before at. payload_before before c.args.bytes.now c.loop-byte.byte-index c.loop-byte.progress _ c.in-InPayload.is (c.loop-byte.invariant before at)

pub returns-in_err-progress : goal.returns-in_err-progress
returns-in_err-progress c =
    let p = err_from_is_err_and c.from_residual.result c.from_residual.ensures.1 in
    rw (p.1, p.2) (λ before at. bad_before before c.args.bytes.now c.loop-byte.byte-index _ c.loop-byte-test.true (c.in_err-progress.ensures _ (c.loop-byte.invariant before at)))
