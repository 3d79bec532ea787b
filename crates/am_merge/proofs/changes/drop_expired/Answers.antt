use Rattle.std.proofs.Common.{◌∙◌, arith}
use Rattle.am_merge.specs.Stores.{versions}
use Rattle.am_merge.proofs.Keys.{key_order}
use Rattle.am_merge.proofs.Firsts.{swept_without, without_length}
use Rattle.am_merge.proofs.Steps.{count_is}
use Rattle.am_merge.proofs.changes.drop_expired.Goals as goal

pub loop-slot-smaller : goal.loop-slot-smaller
loop-slot-smaller g c =
    let first = c.in-Some.ensures.first in
    let shorter = without_length first.version (versions c.loop-slot.store) (versions c.drop_at.new.store) (c.drop_at.ensures.gone first.version first.there) in
    omega arith

pub loop-slot-preserved : goal.loop-slot-preserved
loop-slot-preserved g c =
    let first = c.in-Some.ensures.first in
    let gone = c.drop_at.ensures.gone first.version first.there in
    let shorter = without_length first.version (versions c.loop-slot.store) (versions c.drop_at.new.store) gone in
    let so_far = c.loop-slot.invariant.shorter in
    record {
      store = c.drop_at.ensures.store;
      swept = swept_without g.V.Version.seen c.args.now first.version (versions c.loop-slot.store) (versions c.drop_at.new.store) gone first.expired ∙ c.loop-slot.invariant.swept;
      shorter = omega arith;
    }

pub overflow_sub-result : goal.overflow_sub-result
overflow_sub-result g c =
    let before = c.len-before.ensures ∙ count_is g.V.Version.seen g.V.Version.head_of g.V.Key.Ord.cmp (key_order g.met.V.Key.Ord.total g.met.V.Version.exact_keys) g.V.Version.bucket_of c.args.store.now c.requires in
    let after = c.len.ensures ∙ count_is g.V.Version.seen g.V.Version.head_of g.V.Key.Ord.cmp (key_order g.met.V.Key.Ord.total g.met.V.Version.exact_keys) g.V.Version.bucket_of c.loop-slot.store c.loop-slot.invariant.store in
    let shorter = c.loop-slot.invariant.shorter in
    omega arith

pub returns-clause-went : goal.returns-clause-went
returns-clause-went g c =
    let before = c.len-before.ensures ∙ count_is g.V.Version.seen g.V.Version.head_of g.V.Key.Ord.cmp (key_order g.met.V.Key.Ord.total g.met.V.Version.exact_keys) g.V.Version.bucket_of c.args.store.now c.requires in
    let after = c.len.ensures ∙ count_is g.V.Version.seen g.V.Version.head_of g.V.Key.Ord.cmp (key_order g.met.V.Key.Ord.total g.met.V.Version.exact_keys) g.V.Version.bucket_of c.loop-slot.store c.loop-slot.invariant.store in
    let shorter = c.loop-slot.invariant.shorter in
    omega arith
