use Rattle.std.proofs.Common.{List, refl, subst}
use Rattle.std.specs.Prelude.{Err}
use Rattle.am_gossip.specs.declared.frame.Part.{Part}
use Rattle.am_instance.specs.Steps.{IsArrival}
use Rattle.std.proofs.lemmas.Result.{err_from_is_err_and}
use Rattle.am_gossip.specs.declared.frame.Frame.TheVariants as frames
use Rattle.am_instance.proofs.FrameWorks.{refused_frame, taken_frame}
use Rattle.am_instance.proofs.instance.Instance.receive.Goals as goal

pub returns-in_err-outbox-in-Delta : goal.returns-in_err-outbox-in-Delta
returns-in_err-outbox-in-Delta c =
    let p = err_from_is_err_and c.from_residual.result c.from_residual.ensures.1 in
    rw (p.1, p.2, c.in-Delta.is) (refused_frame c.args.self.now c.take_in.new.self c.args.sender (frames.Delta c.in-Delta.part) c.args.now c.in_err-outbox-in-Delta.field-0.0 c.in_err-outbox-in-Delta.ensures)

pub returns-in_ok-outbox-in-Delta : goal.returns-in_ok-outbox-in-Delta
returns-in_ok-outbox-in-Delta c =
    rw c.in-Delta.is (taken_frame c.args.self.now c.take_in.new.self c.args.sender (frames.Delta c.in-Delta.part) c.args.now c.outcome.result c.in_ok-outbox-in-Delta.outbox refl
    c.in_ok-outbox-in-Delta.ensures c.outcome.ensures.sent c.outcome.ensures.reply c.outcome.ensures.made)

pub returns-in_err-outbox-in-Pull : goal.returns-in_err-outbox-in-Pull
returns-in_err-outbox-in-Pull c =
    let p = err_from_is_err_and c.from_residual-in_err-outbox-in-Pull.result c.from_residual-in_err-outbox-in-Pull.ensures.1 in
    let parts = subst (λ (ps : List Part). IsArrival c.args.self.now c.args.sender ps c.args.now (Err c.in_err-outbox-in-Pull.field-0.0) c.take_in-in-Pull.new.self) c.parts.ensures c.in_err-outbox-in-Pull.ensures in
    rw (p.1, p.2, c.in-Pull.is) (refused_frame c.args.self.now c.take_in-in-Pull.new.self c.args.sender (frames.Pull c.in-Pull.state) c.args.now c.in_err-outbox-in-Pull.field-0.0 parts)

pub returns-in_err-outbox-in-Push : goal.returns-in_err-outbox-in-Push
returns-in_err-outbox-in-Push c =
    let p = err_from_is_err_and c.from_residual-in_err-outbox-in-Push.result c.from_residual-in_err-outbox-in-Push.ensures.1 in
    let parts = subst (λ (ps : List Part). IsArrival c.args.self.now c.args.sender ps c.args.now (Err c.in_err-outbox-in-Push.field-0.0) c.take_in-in-Push.new.self) c.parts-in-Push.ensures c.in_err-outbox-in-Push.ensures in
    rw (p.1, p.2, c.in-Push.is) (refused_frame c.args.self.now c.take_in-in-Push.new.self c.args.sender (frames.Push c.in-Push.state) c.args.now c.in_err-outbox-in-Push.field-0.0 parts)

pub returns-in_ok-outbox-in-Pull : goal.returns-in_ok-outbox-in-Pull
returns-in_ok-outbox-in-Pull c =
    let parts = rw c.parts.ensures at c.in_ok-outbox-in-Pull.ensures in
    rw c.in-Pull.is (taken_frame c.args.self.now c.take_in-in-Pull.new.self c.args.sender (frames.Pull c.in-Pull.state) c.args.now c.outcome-in-Pull.result c.in_ok-outbox-in-Pull.outbox refl
    parts c.outcome-in-Pull.ensures.sent c.outcome-in-Pull.ensures.reply c.outcome-in-Pull.ensures.made)

pub returns-in_ok-outbox-in-Push : goal.returns-in_ok-outbox-in-Push
returns-in_ok-outbox-in-Push c =
    let parts = rw (c.parts-in-Push.ensures, ← c.self-in-Push.view_is) at c.in_ok-outbox-in-Push.ensures in
    rw (c.in-Push.is, ← c.self-in-Push.view_is) (taken_frame c.args.self.now _ c.args.sender (frames.Push c.in-Push.state) c.args.now c.outcome-in-Push.result c.in_ok-outbox-in-Push.outbox refl
    parts (c.send_states.new.self, c.send_states.ensures, c.outcome-in-Push.ensures.sent) c.outcome-in-Push.ensures.reply c.outcome-in-Push.ensures.made)

pub returns-in-Tick : goal.returns-in-Tick
returns-in-Tick c = rw c.in-Tick.is (c.collect.ensures.frame c.args.sender)
