use Rattle.std.proofs.Common.{[], sym, arith}
use Rattle.am_merge.proofs.Keys.{key_order}
use Rattle.am_report.proofs.Stepping.{walk_over, walk_on, walk_end}
use Rattle.am_report.proofs.differences.next_difference.Goals as goal

pub loop-version-init : goal.loop-version-init
loop-version-init g c = record { order = c.requires.order; same = λ differences are. are; left = omega arith }

pub loop-version-preserved : goal.loop-version-preserved
loop-version-preserved g c =
    let keys = key_order g.met.V.Key.Ord.total g.met.V.Version.exact_keys in
    let before = c.loop-version.invariant in
    let step = walk_over g.V.Version.seen g.V.Key.Ord.cmp keys c.args.compared c.args.now c.loop-version.sides c.in-Some.version.now c.come_to.new.sides c.in-Some.ensures (rw c.key.ensures at c.come_to.ensures) (sym c.if-is_different.ensures) before.order in
    let less = step.2 in
    let most = before.left in
    record { order = step.0; same = λ differences are. before.same differences (step.1 differences are); left = omega arith }

pub loop-version-smaller : goal.loop-version-smaller
loop-version-smaller g c =
    let keys = key_order g.met.V.Key.Ord.total g.met.V.Version.exact_keys in
    let step = walk_over g.V.Version.seen g.V.Key.Ord.cmp keys c.args.compared c.args.now c.loop-version.sides c.in-Some.version.now c.come_to.new.sides c.in-Some.ensures (rw c.key.ensures at c.come_to.ensures) (sym c.if-is_different.ensures) c.loop-version.invariant.order in
    step.2

pub returns-then-is_different-clause-order : goal.returns-then-is_different-clause-order
returns-then-is_different-clause-order g c =
    let keys = key_order g.met.V.Key.Ord.total g.met.V.Version.exact_keys in
    let step = walk_on g.V.Version.seen g.V.Key.Ord.cmp keys c.args.compared c.args.now c.loop-version.sides c.in-Some.version.now c.come_to.new.sides c.in-Some.ensures (rw c.key.ensures at c.come_to.ensures) (sym c.if-is_different.ensures) c.loop-version.invariant.order in
    step.0

pub returns-then-is_different-clause-next : goal.returns-then-is_different-clause-next
returns-then-is_different-clause-next g c = λ _.
    let keys = key_order g.met.V.Key.Ord.total g.met.V.Version.exact_keys in
    let step = walk_on g.V.Version.seen g.V.Key.Ord.cmp keys c.args.compared c.args.now c.loop-version.sides c.in-Some.version.now c.come_to.new.sides c.in-Some.ensures (rw c.key.ensures at c.come_to.ensures) (sym c.if-is_different.ensures) c.loop-version.invariant.order in
    ((g.V.Version.seen c.in-Some.version.now).key, λ differences are. c.loop-version.invariant.same _ (step.1 differences are))

pub returns-then-is_different-clause-fewer : goal.returns-then-is_different-clause-fewer
returns-then-is_different-clause-fewer g c = λ _.
    let keys = key_order g.met.V.Key.Ord.total g.met.V.Version.exact_keys in
    let step = walk_on g.V.Version.seen g.V.Key.Ord.cmp keys c.args.compared c.args.now c.loop-version.sides c.in-Some.version.now c.come_to.new.sides c.in-Some.ensures (rw c.key.ensures at c.come_to.ensures) (sym c.if-is_different.ensures) c.loop-version.invariant.order in
    let less = step.2 in
    let most = c.loop-version.invariant.left in
    omega arith

pub returns-clause-none : goal.returns-clause-none
returns-clause-none g c = λ _.
    let keys = key_order g.met.V.Key.Ord.total g.met.V.Version.exact_keys in
    c.loop-version.invariant.same [] (walk_end g.V.Version.seen g.V.Key.Ord.cmp keys c.args.compared c.args.now c.loop-version.sides c.in_default.ensures)
