use Rattle.std.proofs.Common.{sym, ◌∙◌}
use Rattle.std.proofs.lemmas.Result.{err_from_is_err_and}
use Rattle.am_memberlist.proofs.Maps.{node_fault, node_more, nodes_over}
use Rattle.am_memberlist.proofs.answer.behind_nodes.Goals as goal

pub returns-in_err-behind : goal.returns-in_err-behind
returns-in_err-behind c =
    let p = err_from_is_err_and c.from_residual.result c.from_residual.ensures.1 in
    rw (p.1, p.2) (λ other. sym c.loop.invariant ∙ node_fault _ c.args.count c.loop.counter c.loop.rest.now c.loop-test.true (c.in_err-behind.ensures other))

pub loop-preserved : goal.loop-preserved
loop-preserved c =
    sym (node_more c.args.count c.loop.counter c.loop.rest.now _ _ c.loop-test.true c.in_ok-behind.ensures) ∙ c.loop.invariant

pub returns : goal.returns
returns c = sym c.loop.invariant ∙ nodes_over c.args.count c.loop.counter c.loop.rest.now c.loop-test.false
