use Rattle.am_commands.proofs.Stopping.{unsaved_fold}
use Rattle.am_commands.proofs.fold.fold_sources.Goals as goal

pub returns-in-Err-written-clause-stopped : goal.returns-in-Err-written-clause-stopped
returns-in-Err-written-clause-stopped g c =
    let (sources, read, folded) = c.in-Ok.ensures.joined in
    unsaved_fold g.V.Version.seen g.V.Key.Ord.cmp g.S.Source.gives g.S.Source.stops c.args.inputs.now g.W.Write.contents c.args.writer.now c.save_within-written.new.writer
    sources c.in-Ok.folded read folded c.in-Err-written.error c.in-Err-written.ensures.stopped
