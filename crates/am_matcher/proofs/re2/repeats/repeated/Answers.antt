use Rattle.std.proofs.Common.{arith}
use Rattle.am_matcher.proofs.Re2Names.{keeps_more, apart_on, comes_twice, all_apart}
use Rattle.am_matcher.proofs.re2.repeats.repeated.Goals as goal

pub loop-place-preserved : goal.loop-place-preserved
loop-place-preserved c =
    let before = c.loop-place.invariant in
    let kept = c.in_ok-keep.ensures in record {
      kept = keeps_more _ _ c.args.names.now c.loop-place.place c.index-names-place.result c.loop-place-test.true c.index-names-place.is before.kept kept.kept;
      apart = apart_on _ c.args.names.now c.loop-place.place c.index-names-place.result _ c.loop-place-test.true c.index-names-place.is before.kept kept.added c.if-not-branch.false before.apart;
    }

pub returns-then-not-branch : goal.returns-then-not-branch
returns-then-not-branch c =
    comes_twice _ c.args.names.now c.loop-place.place c.index-names-place.result _ c.loop-place-test.true c.index-names-place.is c.loop-place.invariant.kept c.in_ok-keep.ensures.added c.if-not-branch.true

pub returns : goal.returns
returns c = all_apart c.args.names.now c.loop-place.place (omega arith) c.loop-place.invariant.apart
