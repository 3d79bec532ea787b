use Rattle.std.proofs.Common.{rules}
use Rattle.am_store.proofs.Rewrites.{renamed, unrenamed}
use Rattle.am_store.proofs.rewriting.put_in_place.Goals as goal

pub returns-in-Ok : goal.returns-in-Ok
returns-in-Ok g c = λ most map. renamed g.V.Version.seen g.V.Key.Ord.cmp c.args.path.now most g.D.File.Write.contents map _ _ c.args.new c.deref.result.now _ (search rules) (search rules)

pub returns : goal.returns
returns g c = λ most map. unrenamed g.V.Version.seen g.V.Key.Ord.cmp c.args.path.now most g.D.File.Write.contents map _ (g.D.Disk.calls c.rename.new.self) _ c.args.new c.deref.result.now c.remove_new.ensures.removed.0 _ (search rules) (search rules) (search (rules, c.remove_new.ensures.removed.1)) c.remove_new.ensures.fault
