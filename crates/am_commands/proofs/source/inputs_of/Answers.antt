use Rattle.std.proofs.Common.{refl}
use Rattle.am_commands.specs.Opening.{IsOpened, wanted_by}
use Rattle.am_commands.proofs.Zips.{zip_more}
use Rattle.am_commands.proofs.source.inputs_of.Goals as goal

pub loop-word-preserved : goal.loop-word-preserved
loop-word-preserved g c =
    rw c.in_ok-add-in-Ok.ensures
    (zip_more (IsOpened (goal.F-post g c.args.source_of) (wanted_by c.args.words.now c.args.has_logs c.args.reading)) c.args.words.now c.loop-word.inputs.items c.loop-word.word-index _ _
    c.loop-word-test.true c.loop-word.invariant (record { name = refl; source = c.in-Ok.ensures }))
