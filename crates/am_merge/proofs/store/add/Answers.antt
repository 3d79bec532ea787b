use Rattle.std.proofs.Common.{◌+◌, refl, sym, ap, ◌∙◌, subst, arith}
use Rattle.std.specs.Prelude.{insert}
use Rattle.am_merge.specs.Rows.{entries, HasRoom}
use Rattle.am_merge.specs.Cursors.{place}
use Rattle.am_merge.specs.Entries.{key_entry}
use Rattle.am_merge.specs.declared.entry.BucketEntry.{BucketEntry}
use Rattle.am_merge.specs.Stores.{keyed}
use Rattle.am_merge.proofs.Keys.{key_order as order_of_keys}
use Rattle.am_merge.proofs.Steps.{added_keyed, added_versions, filed_put, gap_absent}
use Rattle.am_merge.proofs.store.add.Goals as goal

pub bucket_gap-place-requires-clause-absent : goal.bucket_gap-place-requires-clause-absent
bucket_gap-place-requires-clause-absent g c = gap_absent g.V.Version.seen g.V.Version.head_of g.V.Key.Ord.cmp (order_of_keys g.met.V.Key.Ord.total g.met.V.Version.exact_keys) g.V.Version.bucket_of c.args.store.now (g.V.Version.seen c.args.version).key c.args.cursor c.requires.store c.requires.cursor

pub returns-clause-store : goal.returns-clause-store
returns-clause-store g c =
    let same = c.vacant_key.ensures.value ∙ sym c.put_in.ensures.next in
    let entry = ap (λ (e : BucketEntry). e.key) c.entry_of-entry.ensures ∙ ap (λ s. key_entry g.V.Version.seen g.V.Version.head_of s c.args.version) same in
    let put = c.insert.ensures.items ∙ ap (λ e. insert (entries c.put_in.new.store.keys) (place c.put_in.new.store.keys c.args.cursor) e) entry in
    let by_key = added_keyed g.V.Version.seen g.V.Version.head_of g.V.Key.Ord.cmp (order_of_keys g.met.V.Key.Ord.total g.met.V.Version.exact_keys) c.args.store.now c.put_in.new.store c.insert.new.self c.put_in.result (g.V.Version.head_of (g.V.Version.seen c.args.version).key) c.args.version c.args.cursor (keyed g.V.Version.seen g.V.Version.head_of g.V.Key.Ord.cmp g.V.Version.bucket_of c.requires.store) c.requires.cursor c.put_in.ensures.vacant c.put_in.ensures.updates c.put_in.ensures.keys refl put c.put_in.ensures.len in
    record {
      keys = by_key.index;
      expiries = c.put_in.ensures.index;
      buckets = filed_put g.V.Version.seen g.V.Version.head_of g.V.Key.Ord.cmp (order_of_keys g.met.V.Key.Ord.total g.met.V.Version.exact_keys) g.V.Version.bucket_of c.args.store.now.table c.put_in.new.store.table c.args.store.now.buckets c.put_in.new.store.buckets c.insert-2.new.self c.put_in.result c.vacant_key.result c.args.version c.entry_of-entry.result c.bucket_gap-place.result c.put_in.ensures.vacant c.put_in.ensures.updates c.requires.store.buckets c.bucket_gap-place.ensures.gap c.put_in.ensures.buckets c.entry_of-entry.ensures same c.insert-2.ensures.items;
      count = by_key.count;
    }

pub returns-clause-added : goal.returns-clause-added
returns-clause-added g c =
    let same = c.vacant_key.ensures.value ∙ sym c.put_in.ensures.next in
    let entry = ap (λ (e : BucketEntry). e.key) c.entry_of-entry.ensures ∙ ap (λ s. key_entry g.V.Version.seen g.V.Version.head_of s c.args.version) same in
    let put = c.insert.ensures.items ∙ ap (λ e. insert (entries c.put_in.new.store.keys) (place c.put_in.new.store.keys c.args.cursor) e) entry in
    added_versions g.V.Version.seen g.V.Version.head_of g.V.Key.Ord.cmp (order_of_keys g.met.V.Key.Ord.total g.met.V.Version.exact_keys) c.args.store.now c.put_in.new.store c.insert.new.self c.put_in.result (g.V.Version.head_of (g.V.Version.seen c.args.version).key) c.args.version c.args.cursor (keyed g.V.Version.seen g.V.Version.head_of g.V.Key.Ord.cmp g.V.Version.bucket_of c.requires.store) c.requires.cursor c.put_in.ensures.vacant c.put_in.ensures.updates c.put_in.ensures.keys refl put

pub returns-clause-room : goal.returns-clause-room
returns-clause-room g c = λ n m had.
    let have = had.table in
    let long = c.put_in.ensures.len in
    let wide = c.put_in.ensures.capacity in
    record {
      table = omega arith;
      keys = c.insert.ensures.room n (subst (λ rows. HasRoom rows (n + 1)) (sym c.put_in.ensures.keys) had.keys);
      expiries = c.put_in.ensures.room m had.expiries;
      buckets = c.insert-2.ensures.room m (subst (λ rows. HasRoom rows (m + 1)) (sym c.put_in.ensures.buckets) had.buckets);
    }
