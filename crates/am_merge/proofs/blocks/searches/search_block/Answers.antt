use Rattle.std.proofs.Common.{rules}
use Rattle.std.proofs.lemmas.Fn.{always_returns_same}
use Rattle.am_merge.proofs.Risings.{searched}
use Rattle.am_merge.proofs.blocks.searches.search_block.Goals as goal

pub returns : goal.returns
returns g c =
    let order = g.P.Probe.order c.args.probe.now in
    let facts = c.binary_search_by.ensures in
    let by_order = facts.position order (always_returns_same _ _ _ (λ a r f called. search rules)) in
    let found = searched order c.args.items.now c.binary_search_by.result c.requires facts.bound by_order in
    record { inside = found.inside; equal = found.equal; within = found.within; before = found.before; behind = found.behind }
