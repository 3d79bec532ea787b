use Rattle.std.proofs.Common.{rules}
use Rattle.std.specs.Ordering.{is_lt}
use Rattle.std.specs.List.Sorted.{IsSortedBy}
use Rattle.std.proofs.lemmas.Fn.{always_returns_same}
use Rattle.std.proofs.lemmas.List.Sorted.{ranks_by}
use Rattle.am_merge.proofs.Keys.{key_order}
use Rattle.am_merge.proofs.Twins.{twins_or_map}
use Rattle.am_merge.proofs.changes.order_by_key.Goals as goal

pub returns : goal.returns
returns g c =
    let before = λ (v w : g.row.V.Denot). is_lt (g.V.Key.Ord.cmp (g.V.Version.seen v).key (g.V.Version.seen w).key) in
    let sorted : IsSortedBy before c.sort_unstable_by.new.self.items = c.sort_unstable_by.ensures.sorted before (ranks_by g.met.V.Key.Ord.total (λ v. (g.V.Version.seen v).key)) (always_returns_same _ _ _ (λ a r f called. search rules)) in
    let answer = c.is_sorted_by.ensures.cases before (always_returns_same _ _ _ (λ a r f called. search rules)) in
    let found = twins_or_map g.V.Version.seen g.V.Key.Ord.cmp (key_order g.met.V.Key.Ord.total g.met.V.Version.exact_keys) c.args.versions.now.items c.sort_unstable_by.new.self.items c.sort_unstable_by.ensures.permutation sorted c.is_sorted_by.result (rw c.deref.ensures.value at answer) in
    record { same = c.sort_unstable_by.ensures.permutation; map = found.0; twice = found.1 }
