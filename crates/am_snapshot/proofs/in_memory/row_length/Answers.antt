use Rattle.am_snapshot.proofs.Fits.{length_fits}
use Rattle.am_snapshot.proofs.in_memory.row_length.Goals as goal

pub returns-clause-length : goal.returns-clause-length
returns-clause-length g c = length_fits g.V.Version.seen c.args.held.now _ c.row_length_within.ensures.length
