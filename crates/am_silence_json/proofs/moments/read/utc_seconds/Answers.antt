use Rattle.std.proofs.Common.{arith}
use Rattle.std.proofs.lemmas.Int.{ints}
use Rattle.am_silence_json.proofs.Sums.{utc_behind, utc_ahead}
use Rattle.am_silence_json.proofs.moments.read.utc_seconds.Goals as goal

pub returns-then-offset : goal.returns-then-offset
returns-then-offset c =
    let shown = c.shown_seconds-shown.ensures.value in
    utc_behind _ _ c.shown_seconds-shown.result c.size-size.result _ _ c.if-offset.true shown c.size-size.ensures (omega (arith, ints))

pub returns-else-offset : goal.returns-else-offset
returns-else-offset c =
    let shown = c.shown_seconds-shown.ensures.value in
    utc_ahead _ _ c.shown_seconds-shown.result c.size-size.result _ _ c.if-offset.false (omega arith) shown c.size-size.ensures (omega (arith, ints))
