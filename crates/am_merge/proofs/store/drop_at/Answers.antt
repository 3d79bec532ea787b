use Rattle.am_merge.proofs.Keys.{key_order as order_of_keys}
use Rattle.am_merge.proofs.Steps.{dropped, dropped_versions, filed_taken}
use Rattle.am_merge.proofs.store.drop_at.Goals as goal

pub returns-clause-store : goal.returns-clause-store
returns-clause-store g c =
    dropped g.V.Version.seen g.V.Version.head_of g.V.Key.Ord.cmp (order_of_keys g.met.V.Key.Ord.total g.met.V.Version.exact_keys) g.V.Version.bucket_of c.args.store.now c.take_out-gone.new.store c.remove.new.self c.args.slot c.take_out-gone.result c.key_cursor-cursor.result c.requires.store c.key_cursor-cursor.ensures.item c.key_cursor-cursor.ensures.own c.take_out-gone.ensures.own c.take_out-gone.ensures.updates c.take_out-gone.ensures.keys c.remove.ensures.items c.remove-2.new.self c.take_out-gone.ensures.index
    (filed_taken g.V.Version.seen g.V.Version.head_of g.V.Key.Ord.cmp (order_of_keys g.met.V.Key.Ord.total g.met.V.Version.exact_keys) g.V.Version.bucket_of c.args.store.now.table c.take_out-gone.new.store.table c.args.store.now.buckets c.take_out-gone.new.store.buckets c.remove-2.new.self c.args.slot c.take_out-gone.result c.bucket_cursor-place.result c.take_out-gone.ensures.own c.take_out-gone.ensures.updates c.requires.store.buckets c.bucket_cursor-place.ensures.item c.bucket_cursor-place.ensures.own c.take_out-gone.ensures.buckets c.remove-2.ensures.items)
    c.take_out-gone.ensures.len

pub returns-clause-gone : goal.returns-clause-gone
returns-clause-gone g c = λ v there.
    dropped_versions g.V.Version.seen g.V.Version.head_of g.V.Key.Ord.cmp (order_of_keys g.met.V.Key.Ord.total g.met.V.Version.exact_keys) g.V.Version.bucket_of c.args.store.now c.take_out-gone.new.store c.remove.new.self c.args.slot v c.key_cursor-cursor.result c.requires.store c.key_cursor-cursor.ensures.item c.key_cursor-cursor.ensures.own there c.take_out-gone.ensures.updates c.take_out-gone.ensures.keys c.remove.ensures.items
