use Rattle.std.proofs.Common.{◌+◌, Some, refl, sym, ◌∙◌, subst, arith}
use Rattle.slab.specs.Slab.{Updates}
use Rattle.am_merge.specs.Rows.{HasRoom}
use Rattle.am_merge.specs.Stores.{keyed}
use Rattle.am_merge.proofs.Keys.{key_order as order_of_keys}
use Rattle.am_merge.proofs.Steps.{replaced_keyed, replaced_versions, filed_put, filed_taken, taken_absent, cursor_key}
use Rattle.am_merge.proofs.store.replace_across.Goals as goal

pub bucket_gap-place-requires-clause-index : goal.bucket_gap-place-requires-clause-index
bucket_gap-place-requires-clause-index g c =
    filed_taken g.V.Version.seen g.V.Version.head_of g.V.Key.Ord.cmp (order_of_keys g.met.V.Key.Ord.total g.met.V.Version.exact_keys) g.V.Version.bucket_of c.args.store.now.table c.take_out-replaced.new.store.table c.args.store.now.buckets c.take_out-replaced.new.store.buckets c.remove.new.self c.args.slot c.take_out-replaced.result c.bucket_cursor-left.result c.take_out-replaced.ensures.own c.take_out-replaced.ensures.updates c.requires.store.buckets c.bucket_cursor-left.ensures.item c.bucket_cursor-left.ensures.own c.take_out-replaced.ensures.buckets c.remove.ensures.items

pub bucket_gap-place-requires-clause-absent : goal.bucket_gap-place-requires-clause-absent
bucket_gap-place-requires-clause-absent g c =
    taken_absent g.V.Version.seen g.V.Version.head_of g.V.Key.Ord.cmp (order_of_keys g.met.V.Key.Ord.total g.met.V.Version.exact_keys) g.V.Version.bucket_of c.args.store.now c.take_out-replaced.new.store.table c.args.slot c.take_out-replaced.result (g.V.Version.seen c.args.version).key c.requires.store c.take_out-replaced.ensures.own
    (cursor_key g.V.Version.seen g.V.Version.head_of g.V.Key.Ord.cmp (order_of_keys g.met.V.Key.Ord.total g.met.V.Version.exact_keys) c.args.store.now (g.V.Version.seen c.args.version).key c.args.cursor c.args.slot c.take_out-replaced.result (keyed g.V.Version.seen g.V.Version.head_of g.V.Key.Ord.cmp g.V.Version.bucket_of c.requires.store) c.requires.cursor c.requires.slot c.take_out-replaced.ensures.own)
    c.take_out-replaced.ensures.updates

pub put_in-requires-clause-expiries : goal.put_in-requires-clause-expiries
put_in-requires-clause-expiries g c = c.take_out-replaced.ensures.expiries 1 c.requires.expiries

pub insert-requires-clause-room : goal.insert-requires-clause-room
insert-requires-clause-room g c =
    subst (λ rows. HasRoom rows 1) (sym c.put_in.ensures.buckets) (c.remove.ensures.room 1 (subst (λ rows. HasRoom rows 1) (sym c.take_out-replaced.ensures.buckets) c.requires.buckets))

pub returns-clause-store : goal.returns-clause-store
returns-clause-store g c =
    let same = c.put_in.ensures.next ∙ c.take_out-replaced.ensures.next in
    let back = subst (λ s. Updates c.take_out-replaced.new.store.table c.put_in.new.store.table s (Some c.args.version)) same c.put_in.ensures.updates in
    let none = c.take_out-replaced.ensures.updates.changed in
    let left = filed_taken g.V.Version.seen g.V.Version.head_of g.V.Key.Ord.cmp (order_of_keys g.met.V.Key.Ord.total g.met.V.Version.exact_keys) g.V.Version.bucket_of c.args.store.now.table c.take_out-replaced.new.store.table c.args.store.now.buckets c.take_out-replaced.new.store.buckets c.remove.new.self c.args.slot c.take_out-replaced.result c.bucket_cursor-left.result c.take_out-replaced.ensures.own c.take_out-replaced.ensures.updates c.requires.store.buckets c.bucket_cursor-left.ensures.item c.bucket_cursor-left.ensures.own c.take_out-replaced.ensures.buckets c.remove.ensures.items in
    let by_key = replaced_keyed g.V.Version.seen g.V.Version.head_of g.V.Key.Ord.cmp (order_of_keys g.met.V.Key.Ord.total g.met.V.Version.exact_keys) c.args.store.now c.take_out-replaced.new.store (record c.put_in.new.store { buckets = c.insert.new.self }) c.args.slot c.take_out-replaced.result c.args.version c.args.cursor (keyed g.V.Version.seen g.V.Version.head_of g.V.Key.Ord.cmp g.V.Version.bucket_of c.requires.store) c.requires.cursor c.requires.slot c.take_out-replaced.ensures.own c.take_out-replaced.ensures.updates back c.take_out-replaced.ensures.keys c.put_in.ensures.keys c.take_out-replaced.ensures.len c.put_in.ensures.len in
    record {
      keys = by_key.index;
      expiries = c.put_in.ensures.index;
      buckets = filed_put g.V.Version.seen g.V.Version.head_of g.V.Key.Ord.cmp (order_of_keys g.met.V.Key.Ord.total g.met.V.Version.exact_keys) g.V.Version.bucket_of c.take_out-replaced.new.store.table c.put_in.new.store.table c.remove.new.self c.put_in.new.store.buckets c.insert.new.self c.args.slot c.args.slot c.args.version c.entry_of-entry.result c.bucket_gap-place.result none back left c.bucket_gap-place.ensures.gap c.put_in.ensures.buckets c.entry_of-entry.ensures refl c.insert.ensures.items;
      count = by_key.count;
    }

pub returns-clause-replaced : goal.returns-clause-replaced
returns-clause-replaced g c =
    replaced_versions g.V.Version.seen g.V.Version.head_of g.V.Key.Ord.cmp (order_of_keys g.met.V.Key.Ord.total g.met.V.Version.exact_keys) c.args.store.now c.take_out-replaced.new.store (record c.put_in.new.store { buckets = c.insert.new.self }) c.args.slot c.take_out-replaced.result c.args.version c.args.cursor (keyed g.V.Version.seen g.V.Version.head_of g.V.Key.Ord.cmp g.V.Version.bucket_of c.requires.store) c.requires.cursor c.requires.slot c.take_out-replaced.ensures.own c.take_out-replaced.ensures.updates (subst (λ s. Updates c.take_out-replaced.new.store.table c.put_in.new.store.table s (Some c.args.version)) (c.put_in.ensures.next ∙ c.take_out-replaced.ensures.next) c.put_in.ensures.updates) c.take_out-replaced.ensures.keys c.put_in.ensures.keys

pub returns-clause-room : goal.returns-clause-room
returns-clause-room g c = λ n m had.
    let have = had.table in
    let less = c.take_out-replaced.ensures.len in
    let more = c.put_in.ensures.len in
    let wide = c.take_out-replaced.ensures.table in
    let as_wide = c.put_in.ensures.capacity in
    record {
      table = omega arith;
      keys = subst (λ rows. HasRoom rows n) (sym (c.put_in.ensures.keys ∙ c.take_out-replaced.ensures.keys)) had.keys;
      expiries = c.put_in.ensures.room m (c.take_out-replaced.ensures.expiries (m + 1) had.expiries);
      buckets = c.insert.ensures.room m (subst (λ rows. HasRoom rows (m + 1)) (sym c.put_in.ensures.buckets) (c.remove.ensures.room (m + 1) (subst (λ rows. HasRoom rows (m + 1)) (sym c.take_out-replaced.ensures.buckets) had.buckets)));
    }
