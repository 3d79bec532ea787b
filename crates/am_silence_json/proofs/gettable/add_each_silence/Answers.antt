use Rattle.std.proofs.Common.{[], ◌∷◌, ◌++◌, arith}
use Rattle.am_silence_json.proofs.Rows.{one_more, row_more_gettable}
use Rattle.am_silence_json.proofs.gettable.add_each_silence.Goals as goal

pub loop-version-preserved : goal.loop-version-preserved
loop-version-preserved c =
    let before = c.loop-version.invariant in
    let shown = c.in_ok-add_silence.ensures in (
      before.0 ++ shown.0 ∷ [],
      row_more_gettable _ _ before.0 c.loop-version-item.result shown.0 (omega arith) c.loop-version-item.is before.1 shown.1,
      one_more before.0 shown.0 before.2 shown.2,
    )
