use Rattle.std.proofs.Common.{◌≡◌, refl, ap, arith}
use Rattle.slab.specs.Slab.{Slab, slab_len}
use Rattle.am_merge.proofs.Keys.{key_order as order_of_keys}
use Rattle.am_merge.proofs.Steps.{moved}
use Rattle.am_merge.proofs.store.reserve.Goals as goal

pub returns-in_err-reserve-clause-store : goal.returns-in_err-reserve-clause-store
returns-in_err-reserve-clause-store g c =
    moved g.V.Version.seen g.V.Version.head_of g.V.Key.Ord.cmp (order_of_keys g.met.V.Key.Ord.total g.met.V.Version.exact_keys) g.V.Version.bucket_of c.args.store.now (record c.args.store.now { table = c.reserve.new.self }) (ap (λ (s : Slab g.row.V.Denot). s.slots) c.reserve.ensures.rest_kept) refl refl refl c.requires

pub returns-in_err-reserve-2-clause-store : goal.returns-in_err-reserve-2-clause-store
returns-in_err-reserve-2-clause-store g c =
    moved g.V.Version.seen g.V.Version.head_of g.V.Key.Ord.cmp (order_of_keys g.met.V.Key.Ord.total g.met.V.Version.exact_keys) g.V.Version.bucket_of c.args.store.now (record c.args.store.now { table = c.reserve.new.self; keys = c.reserve-2.new.self }) (ap (λ (s : Slab g.row.V.Denot). s.slots) c.reserve.ensures.rest_kept) c.reserve-2.ensures.items refl refl c.requires

pub returns-in_err-reserve-2-clause-kept : goal.returns-in_err-reserve-2-clause-kept
returns-in_err-reserve-2-clause-kept g c = λ n m had.
    let have = had.table in
    let long : slab_len c.reserve.new.self ≡ slab_len c.args.store.now.table = ap (λ (s : Slab g.row.V.Denot). slab_len s) c.reserve.ensures.rest_kept in
    let wide = c.reserve.ensures.capacity in
    record { table = omega arith; keys = c.reserve-2.ensures.kept n had.keys; expiries = had.expiries; buckets = had.buckets }

pub returns-in_err-reserve-3-clause-store : goal.returns-in_err-reserve-3-clause-store
returns-in_err-reserve-3-clause-store g c =
    moved g.V.Version.seen g.V.Version.head_of g.V.Key.Ord.cmp (order_of_keys g.met.V.Key.Ord.total g.met.V.Version.exact_keys) g.V.Version.bucket_of c.args.store.now (record c.args.store.now { table = c.reserve.new.self; keys = c.reserve-2.new.self; expiries = c.reserve-3.new.self }) (ap (λ (s : Slab g.row.V.Denot). s.slots) c.reserve.ensures.rest_kept) c.reserve-2.ensures.items c.reserve-3.ensures.items refl c.requires

pub returns-in_err-reserve-3-clause-kept : goal.returns-in_err-reserve-3-clause-kept
returns-in_err-reserve-3-clause-kept g c = λ n m had.
    let have = had.table in
    let long : slab_len c.reserve.new.self ≡ slab_len c.args.store.now.table = ap (λ (s : Slab g.row.V.Denot). slab_len s) c.reserve.ensures.rest_kept in
    let wide = c.reserve.ensures.capacity in
    record { table = omega arith; keys = c.reserve-2.ensures.kept n had.keys; expiries = c.reserve-3.ensures.kept m had.expiries; buckets = had.buckets }

pub returns-clause-store : goal.returns-clause-store
returns-clause-store g c =
    moved g.V.Version.seen g.V.Version.head_of g.V.Key.Ord.cmp (order_of_keys g.met.V.Key.Ord.total g.met.V.Version.exact_keys) g.V.Version.bucket_of c.args.store.now (record c.args.store.now { table = c.reserve.new.self; keys = c.reserve-2.new.self; expiries = c.reserve-3.new.self; buckets = c.reserve-4.new.self }) (ap (λ (s : Slab g.row.V.Denot). s.slots) c.reserve.ensures.rest_kept) c.reserve-2.ensures.items c.reserve-3.ensures.items c.reserve-4.ensures.items c.requires

pub returns-clause-kept : goal.returns-clause-kept
returns-clause-kept g c = λ n m had.
    let have = had.table in
    let long : slab_len c.reserve.new.self ≡ slab_len c.args.store.now.table = ap (λ (s : Slab g.row.V.Denot). slab_len s) c.reserve.ensures.rest_kept in
    let wide = c.reserve.ensures.capacity in
    record { table = omega arith; keys = c.reserve-2.ensures.kept n had.keys; expiries = c.reserve-3.ensures.kept m had.expiries; buckets = c.reserve-4.ensures.kept m had.buckets }
