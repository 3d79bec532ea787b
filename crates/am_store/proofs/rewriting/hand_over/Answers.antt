use Rattle.std.proofs.Common.{rules}
use Rattle.am_store.proofs.Rewrites.{handed, unhanded}
use Rattle.am_store.proofs.rewriting.hand_over.Goals as goal

pub returns-in-Ok : goal.returns-in-Ok
returns-in-Ok g c = λ most map. handed g.V.Version.seen g.V.Key.Ord.cmp c.args.path.now most g.D.File.Write.contents map _ _ _ _ (search rules) (search rules) (search rules)

pub returns-in-Err : goal.returns-in-Err
returns-in-Err g c = λ most map. unhanded g.V.Version.seen g.V.Key.Ord.cmp c.args.path.now most g.D.File.Write.contents map _ _ _ _ _ c.remove_new.ensures.removed.0 _ (search rules) (search rules) c.remove_new.ensures.removed.1 c.remove_new.ensures.fault
