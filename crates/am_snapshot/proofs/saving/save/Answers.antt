use Rattle.am_snapshot.proofs.Fits.{large_is}
use Rattle.am_snapshot.proofs.saving.save.Goals as goal

pub returns-clause-too_large : goal.returns-clause-too_large
returns-clause-too_large g c = large_is g.V.Version.seen c.args.held.now _ c.save_within.ensures.too_large
