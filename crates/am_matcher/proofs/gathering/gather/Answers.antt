use Rattle.std.proofs.Common.{map}
use Rattle.std.proofs.lemmas.List.{take_all}
use Rattle.am_matcher.proofs.Gatherings.{gathered_all}
use Rattle.am_matcher.proofs.gathering.gather.Goals as goal

pub returns : goal.returns
returns c =
    let whole = rw (take_all c.loop-bucket.bucket-index c.args.buckets.now c.loop-bucket-test.false) at c.loop-bucket.invariant in
    gathered_all c.args.buckets.now c.args.held.now (map (λ m. m.now) c.loop-bucket.found.items) (map (λ m. m.now) c.order_by_id.new.silences.items)
    c.iter-walk.ensures.order whole c.order_by_id.ensures.rising c.order_by_id.ensures.same c.order_by_id.ensures.kept
