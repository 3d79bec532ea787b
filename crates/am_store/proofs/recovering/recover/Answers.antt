use Rattle.am_store.proofs.Together.{recovers}
use Rattle.am_store.proofs.recovering.recover.Goals as goal

pub returns : goal.returns
returns g c = recovers g.V.Version.seen (g.V.Message.reads c.args.unknown) _ _ _ _ _ _ c.in_ok-held.ensures c.in_ok-old_end.ensures c.in_ok-end.ensures
