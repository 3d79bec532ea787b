use Rattle.std.proofs.Common.{sym, ◌∙◌, subst}
use Rattle.std.proofs.lemmas.Result.{IfOk-weaker}
use Rattle.slab.specs.Slab.{get}
use Rattle.am_merge.specs.Stores.{IsExpiryIndex}
use Rattle.am_merge.proofs.Totals.{time_total}
use Rattle.am_merge.proofs.Filed.{expiries_filed}
use Rattle.am_merge.proofs.bulk.build_expiries.Goals as goal

pub sort-requires : goal.sort-requires
sort-requires g c = time_total

pub returns : goal.returns
returns g c =
    let index = expiries_filed g.V.Version.seen c.args.table.now c.in_ok-list.list.items c.sort.new.items.items c.in_ok-list.ensures c.sort.ensures.same c.in_ok-sort.ensures.sorted in
    IfOk-weaker c.from_slice.result _ _ (λ blocks same. subst (IsExpiryIndex g.V.Version.seen (get c.args.table.now)) (sym (same ∙ c.as_slice.ensures.value)) index) c.from_slice.ensures
