use Rattle.std.proofs.Common.{◌≡◌, refl, sym, ◌∙◌, true, false, inr}
use Rattle.am_wire.specs.Writing.{delimited}
use Rattle.am_gossip.specs.Frames.{fits}
use Rattle.am_gossip.specs.declared.frame.Frame.TheVariants.{Delta}
use Rattle.am_instance.proofs.frame_sender.FrameSender.send_delta.Goals as goal

pub returns-then-not-delta_fits : goal.returns-then-not-delta_fits
returns-then-not-delta_fits c =
    let over : fits (Delta (record { key = c.args.key; bytes = delimited c.args.content.now })) ≡ false =
    sym (c.delta_fits.ensures (record { key = c.args.key; bytes = delimited c.args.content.now }) refl c.delimited_length.ensures) ∙ c.if-not-delta_fits.true in
    record { fitting = λ fitting. absurd cc; too_long = λ _. c.count_limit.ensures }

pub returns-in-None : goal.returns-in-None
returns-in-None c =
    let within : fits (Delta (record { key = c.args.key; bytes = delimited c.args.content.now })) ≡ true =
    sym (c.delta_fits.ensures (record { key = c.args.key; bytes = delimited c.args.content.now }) refl c.delimited_length.ensures) ∙ c.if-not-delta_fits.false in
    record { fitting = λ _. inr c.count_memory.ensures; too_long = λ over. absurd cc }
