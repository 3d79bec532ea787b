use Rattle.std.proofs.Common.{map, sym, ◌∙◌}
use Rattle.std.proofs.lemmas.List.{map-append}
use Rattle.std.proofs.lemmas.Result.{err_from_is_err_and}
use Rattle.am_memberlist.specs.Seen.{pair_of}
use Rattle.am_memberlist.proofs.Maps.{count_fault, counted, pair_fault, pair_more, pairs_over}
use Rattle.am_memberlist.proofs.msgpack.map_at.Goals as goal

pub returns-in_err-count : goal.returns-in_err-count
returns-in_err-count c =
    let p = err_from_is_err_and c.from_residual.result c.from_residual.ensures.1 in
    rw (p.1, p.2) (λ other. count_fault c.args.bytes.now _ c.in_err-count.ensures)

pub returns-in_err-pair : goal.returns-in_err-pair
returns-in_err-pair c =
    let p = err_from_is_err_and c.from_residual-in_err-pair.result c.from_residual-in_err-pair.ensures.1 in
    rw (p.1, p.2) (λ other. counted c.args.bytes.now _ _ c.in_ok-count.ensures ∙ sym c.loop.invariant
    ∙ pair_fault _ _ c.in_ok-count.count c.loop.counter c.loop.rest.now c.loop-test.true (sym c.in_err-pair.ensures))

pub loop-preserved : goal.loop-preserved
loop-preserved c =
    let grown = c.in_ok-push.ensures.items in
    rw (grown, map-append) (sym (pair_more (map pair_of c.loop.pairs.items) _ c.in_ok-count.count c.loop.counter c.loop.rest.now _ c.loop-test.true (sym c.in_ok-pair.ensures))
    ∙ c.loop.invariant)

pub returns : goal.returns
returns c =
    counted c.args.bytes.now _ _ c.in_ok-count.ensures ∙ sym c.loop.invariant
    ∙ pairs_over (map pair_of c.loop.pairs.items) c.in_ok-count.count c.loop.counter c.loop.rest.now c.loop-test.false
