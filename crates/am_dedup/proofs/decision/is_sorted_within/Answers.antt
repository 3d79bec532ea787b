use Rattle.std.proofs.Common.{arith, sym, ◌∙◌, get_or}
use Rattle.am_dedup.proofs.Sets.{not_within, subset_is}
use Rattle.am_dedup.proofs.Marks.{all_listed}
use Rattle.am_dedup.proofs.decision.is_sorted_within.Goals as goal

pub returns-then-not-marks-place : goal.returns-then-not-marks-place
returns-then-not-marks-place c =
    let hash = get_or c.args.sorted.now c.loop-place.place 0 in
    let marked = c.marks_of-marks.ensures hash c.loop-place.place (c.is_new.ensures.first c.if-is_new.true) in
    sym (not_within c.args.sorted.now c.args.listed.now c.loop-place.place c.loop-place-test.true (sym marked ∙ c.if-not-marks-place.true))

pub returns : goal.returns
returns c =
    sym (subset_is c.args.sorted.now c.args.listed.now
    ∙ all_listed c.args.sorted.now c.args.listed.now (λ i within. c.loop-place.invariant i (omega (arith, within, c.loop-place-test.false))))
