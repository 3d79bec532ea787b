use Rattle.std.proofs.Common.{refl, ap}
use Rattle.slab.specs.Slab.{Slab}
use Rattle.am_merge.proofs.Keys.{key_order}
use Rattle.am_merge.proofs.Steps.{moved_keyed}
use Rattle.am_merge.proofs.bulk.reserve_key.Goals as goal

pub returns-in_err-reserve-clause-keyed : goal.returns-in_err-reserve-clause-keyed
returns-in_err-reserve-clause-keyed g c =
    moved_keyed g.V.Version.seen g.V.Version.head_of g.V.Key.Ord.cmp (key_order g.met.V.Key.Ord.total g.met.V.Version.exact_keys) c.args.store.now (record c.args.store.now { table = c.reserve.new.self }) (ap (λ (s : Slab g.row.V.Denot). s.slots) c.reserve.ensures.rest_kept) refl c.requires

pub returns-clause-keyed : goal.returns-clause-keyed
returns-clause-keyed g c =
    moved_keyed g.V.Version.seen g.V.Version.head_of g.V.Key.Ord.cmp (key_order g.met.V.Key.Ord.total g.met.V.Version.exact_keys) c.args.store.now (record c.args.store.now { table = c.reserve.new.self; keys = c.reserve-2.new.self }) (ap (λ (s : Slab g.row.V.Denot). s.slots) c.reserve.ensures.rest_kept) c.reserve-2.ensures.items c.requires
