use Rattle.std.proofs.Common.{◌+◌, Some, sym, ◌∙◌, subst, arith}
use Rattle.slab.specs.Slab.{Updates}
use Rattle.am_merge.specs.Rows.{HasRoom}
use Rattle.am_merge.specs.Stores.{keyed}
use Rattle.am_merge.proofs.Keys.{key_order as order_of_keys}
use Rattle.am_merge.proofs.Steps.{replaced_keyed, replaced_versions, filed_swapped, cursor_key, less_room}
use Rattle.am_merge.proofs.store.replace_within.Goals as goal

pub put_in-requires-clause-expiries : goal.put_in-requires-clause-expiries
put_in-requires-clause-expiries g c = c.take_out-replaced.ensures.expiries 1 c.requires.room

pub returns-clause-store : goal.returns-clause-store
returns-clause-store g c =
    let back = subst (λ s. Updates c.take_out-replaced.new.store.table c.put_in.new.store.table s (Some c.args.version)) (c.put_in.ensures.next ∙ c.take_out-replaced.ensures.next) c.put_in.ensures.updates in
    let by_key = replaced_keyed g.V.Version.seen g.V.Version.head_of g.V.Key.Ord.cmp (order_of_keys g.met.V.Key.Ord.total g.met.V.Version.exact_keys) c.args.store.now c.take_out-replaced.new.store c.put_in.new.store c.args.slot c.take_out-replaced.result c.args.version c.args.cursor (keyed g.V.Version.seen g.V.Version.head_of g.V.Key.Ord.cmp g.V.Version.bucket_of c.requires.store) c.requires.cursor c.requires.slot c.take_out-replaced.ensures.own c.take_out-replaced.ensures.updates back c.take_out-replaced.ensures.keys c.put_in.ensures.keys c.take_out-replaced.ensures.len c.put_in.ensures.len in
    record {
      keys = by_key.index;
      expiries = c.put_in.ensures.index;
      buckets = filed_swapped g.V.Version.seen g.V.Version.head_of g.V.Key.Ord.cmp (order_of_keys g.met.V.Key.Ord.total g.met.V.Version.exact_keys) g.V.Version.bucket_of c.args.store.now.table c.take_out-replaced.new.store.table c.put_in.new.store.table c.args.store.now.buckets c.put_in.new.store.buckets c.args.slot c.take_out-replaced.result c.args.version c.take_out-replaced.ensures.own c.take_out-replaced.ensures.updates back
          (sym (cursor_key g.V.Version.seen g.V.Version.head_of g.V.Key.Ord.cmp (order_of_keys g.met.V.Key.Ord.total g.met.V.Version.exact_keys) c.args.store.now (g.V.Version.seen c.args.version).key c.args.cursor c.args.slot c.take_out-replaced.result (keyed g.V.Version.seen g.V.Version.head_of g.V.Key.Ord.cmp g.V.Version.bucket_of c.requires.store) c.requires.cursor c.requires.slot c.take_out-replaced.ensures.own))
          (sym (c.requires.bucket c.take_out-replaced.result c.take_out-replaced.ensures.own)) c.requires.store.buckets (c.put_in.ensures.buckets ∙ c.take_out-replaced.ensures.buckets);
      count = by_key.count;
    }

pub returns-clause-replaced : goal.returns-clause-replaced
returns-clause-replaced g c =
    replaced_versions g.V.Version.seen g.V.Version.head_of g.V.Key.Ord.cmp (order_of_keys g.met.V.Key.Ord.total g.met.V.Version.exact_keys) c.args.store.now c.take_out-replaced.new.store c.put_in.new.store c.args.slot c.take_out-replaced.result c.args.version c.args.cursor (keyed g.V.Version.seen g.V.Version.head_of g.V.Key.Ord.cmp g.V.Version.bucket_of c.requires.store) c.requires.cursor c.requires.slot c.take_out-replaced.ensures.own c.take_out-replaced.ensures.updates (subst (λ s. Updates c.take_out-replaced.new.store.table c.put_in.new.store.table s (Some c.args.version)) (c.put_in.ensures.next ∙ c.take_out-replaced.ensures.next) c.put_in.ensures.updates) c.take_out-replaced.ensures.keys c.put_in.ensures.keys

pub returns-clause-room : goal.returns-clause-room
returns-clause-room g c = λ n m had.
    let have = had.table in
    let less = c.take_out-replaced.ensures.len in
    let more = c.put_in.ensures.len in
    let wide = c.take_out-replaced.ensures.table in
    let as_wide = c.put_in.ensures.capacity in
    record {
      table = omega arith;
      keys = subst (λ rows. HasRoom rows n) (sym (c.put_in.ensures.keys ∙ c.take_out-replaced.ensures.keys)) had.keys;
      expiries = c.put_in.ensures.room m (c.take_out-replaced.ensures.expiries (m + 1) had.expiries);
      buckets = subst (λ rows. HasRoom rows m) (sym (c.put_in.ensures.buckets ∙ c.take_out-replaced.ensures.buckets)) (less_room c.args.store.now.buckets m had.buckets);
    }
