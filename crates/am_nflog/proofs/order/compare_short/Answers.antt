use Rattle.std.proofs.Common.{◌∙◌, arith}
use Rattle.am_nflog.proofs.Orders.{first_decides, lengths_decide}
use Rattle.am_nflog.proofs.order.compare_short.Goals as goal

pub returns-then-a-at : goal.returns-then-a-at
returns-then-a-at c =
    let inside = c.loop-at-test.true in
    let least = c.min-at-end.ensures in
    c.cmp.ensures ∙ first_decides c.loop-at.at _ _ c.loop-at.invariant.0 (omega arith) (omega arith) c.if-a-at.true

pub returns : goal.returns
returns c =
    let over = c.loop-at-test.false in
    let least = c.min-at-end.ensures in
    let inside = c.loop-at.invariant.1 in
    c.cmp-2.ensures ∙ lengths_decide c.loop-at.at _ _ c.loop-at.invariant.0 (omega arith)
