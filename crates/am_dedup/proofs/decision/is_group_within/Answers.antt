use Rattle.std.proofs.Common.{sym, ◌∙◌, ap}
use Rattle.std.specs.FinSet.{is_subset}
use Rattle.std.proofs.lemmas.List.Sorted.{IsNonDecreasingBy-from_sort}
use Rattle.am_dedup.specs.Decisions.{set_of}
use Rattle.am_dedup.proofs.Sets.{any_order}
use Rattle.am_dedup.proofs.decision.is_group_within.Goals as goal

pub is_sorted_within-requires-clause-sorted : goal.is_sorted_within-requires-clause-sorted
is_sorted_within-requires-clause-sorted c = IsNonDecreasingBy-from_sort (λ x. x) _ c.sort_unstable.ensures.sorted

pub returns : goal.returns
returns c =
    c.is_sorted_within.ensures
    ∙ ap (λ s. is_subset s (set_of c.args.listed.now)) (sym (any_order _ _ c.sort_unstable.ensures.permutation) ∙ ap set_of c.copy_from_slice.ensures.after)
