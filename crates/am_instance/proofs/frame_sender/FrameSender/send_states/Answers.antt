use Rattle.std.proofs.Common.{◌≡◌, ◌∙◌, sym, false}
use Rattle.am_gossip.specs.Frames.{fits}
use Rattle.am_instance.specs.Sendings.{states_frame, whole_state}
use Rattle.am_instance.proofs.Sent.{frame_fits}
use Rattle.am_instance.proofs.frame_sender.FrameSender.send_states.Goals as goal

pub returns-then-not-keep_limit : goal.returns-then-not-keep_limit
returns-then-not-keep_limit c =
    let over : fits (states_frame c.args.exchange (whole_state c.args.silences.now c.args.log.now)) ≡ false =
    frame_fits c.args.exchange _ ∙ sym c.keep_limit.ensures ∙ c.if-not-keep_limit.true in
    record { fitting = λ fitting. absurd cc; too_long = λ _. c.count_limit.ensures }
