use Rattle.std.proofs.Common.{rules}
use Rattle.std.specs.Ordering.{is_lt, nat_cmp}
use Rattle.std.specs.Cmp.Lexicographic.{slice_cmp}
use Rattle.std.proofs.lemmas.Fn.{always_returns_same}
use Rattle.am_instance.proofs.Names.{order_or_twice}
use Rattle.am_instance.proofs.config.sort_names.Goals as goal

pub returns : goal.returns
returns c =
    let answer = c.is_sorted_by.ensures.cases (λ one next. is_lt (slice_cmp nat_cmp one next)) (always_returns_same _ _ _ (λ a r f called. search rules)) in
    let found = order_or_twice c.args.names.now.items c.sort_unstable.new.self.items c.sort_unstable.ensures.permutation c.sort_unstable.ensures.sorted c.is_sorted_by.result (rw c.deref.ensures.value at answer) in
    record { same = c.sort_unstable.ensures.permutation; order = found.0; twice = found.1 }
