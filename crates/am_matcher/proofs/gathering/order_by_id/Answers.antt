use Rattle.std.proofs.Common.{◌≡◌, IsSortedBy, rules}
use Rattle.std.specs.List.{dedup}
use Rattle.std.specs.Ordering.{is_lt}
use Rattle.std.specs.Cmp.Lexicographic.{nat_list_cmp_total, on_texts, texts_ties}
use Rattle.std.proofs.lemmas.Fn.{always_returns_same, dedup_same}
use Rattle.std.proofs.lemmas.List.Kept.{IsStrictlySortedBy-dedup}
use Rattle.std.proofs.lemmas.List.Sorted.{ranks_by}
use Rattle.am_matcher.proofs.Orders.{Silence, by_id, have_one_id, IsMap-rising, ordered_same, ordered_kept}
use Rattle.am_matcher.proofs.gathering.order_by_id.Goals as goal

pub returns : goal.returns
returns c =
    let moved = c.sort_unstable_by.ensures.permutation in
    let sorted : IsSortedBy (λ a b. is_lt (by_id a b)) c.sort_unstable_by.new.self.items = c.sort_unstable_by.ensures.sorted (λ a b. is_lt (by_id a b)) (ranks_by nat_list_cmp_total (λ (m : Silence). m.now.silence.id)) (always_returns_same _ _ _ (λ a r f called. search rules)) in
    let once : c.dedup_by.new.self.items ≡ dedup have_one_id c.sort_unstable_by.new.self.items = dedup_same _ have_one_id _ (λ x y b f' x' y' called. search rules) c.sort_unstable_by.new.self.items c.dedup_by.new.self.items c.dedup_by.ensures.filtered in
    rw once (record {
      rising = IsMap-rising (dedup have_one_id c.sort_unstable_by.new.self.items) (IsStrictlySortedBy-dedup (on_texts (λ (m : Silence). m.now.silence.id)) (λ x y. texts_ties x.now.silence.id y.now.silence.id) c.sort_unstable_by.new.self.items sorted);
      same = ordered_same c.args.silences.now.items c.sort_unstable_by.new.self.items moved;
      kept = ordered_kept c.args.silences.now.items c.sort_unstable_by.new.self.items moved;
    })
