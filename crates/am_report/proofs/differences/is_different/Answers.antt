use Rattle.std.proofs.Common.{refl, not}
use Rattle.std.specs.Option.{option_copied}
use Rattle.am_report.specs.Differences.{compared_of, is_same}
use Rattle.am_report.proofs.Loops.{none_more, one_here}
use Rattle.am_report.proofs.differences.is_different.Goals as goal

pub loop-other-preserved : goal.loop-other-preserved
loop-other-preserved g c =
    none_more _ c.in-Some.others.now c.loop-other.other-index c.other-item.result c.loop-other-test.true c.loop-other.invariant
    (rw (← c.other-item.is, ← c.compared.ensures, ← c.if-not-is_same.ensures) refl)

pub returns-then-not-is_same : goal.returns-then-not-is_same
returns-then-not-is_same g c =
    let here = one_here (λ other. not (is_same g.V.Version.seen (option_copied c.compared-here.result) (compared_of g.V.Version.seen c.args.compared c.args.now other.here)))
    c.in-Some.others.now c.loop-other.other-index c.other-item.result c.loop-other-test.true
    (rw (← c.other-item.is, ← c.compared.ensures, ← c.if-not-is_same.ensures) refl) in
    rw (c.in-Some.ensures.cases.0, ← c.compared-here.ensures) here
