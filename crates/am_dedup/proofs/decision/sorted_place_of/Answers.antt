use Rattle.std.proofs.Common.{rules, arith, nat_lt}
use Rattle.std.proofs.lemmas.Bool.Decides.{nat_tests}
use Rattle.std.proofs.lemmas.List.Sorted.{IsPartitionPoint-from_clause, IsPartitionedBy-ltb}
use Rattle.am_dedup.proofs.Marks.{first_is, nowhere}
use Rattle.am_dedup.proofs.decision.sorted_place_of.Goals as goal
use Rattle.am_dedup.proofs.decision.sorted_place_of.Goals.{else-place-sorted-via-then-place-sorted+else-sorted-place, else-place-sorted-via-else-place-sorted}

pub returns-then-sorted-place : goal.returns-then-sorted-place
returns-then-sorted-place c =
    let parted = IsPartitionedBy-ltb (λ p. p) _ c.args.hash c.requires in
    let point = IsPartitionPoint-from_clause (λ p. nat_lt p c.args.hash) _ _ c.partition_point-place.ensures.partitioned parted (λ a r q k. search rules) in
    first_is c.args.sorted.now c.args.hash _ c.if-place-sorted.true c.if-sorted-place.true point.0

pub returns-else-place-sorted : goal.returns-else-place-sorted
returns-else-place-sorted c =
    let parted = IsPartitionedBy-ltb (λ p. p) _ c.args.hash c.requires in
    let point = IsPartitionPoint-from_clause (λ p. nat_lt p c.args.hash) _ _ c.partition_point-place.ensures.partitioned parted (λ a r q k. search rules) in
    nowhere c.args.sorted.now c.args.hash c.partition_point-place.result c.requires point.0 point.1 (λ within.
    elim c.else-place-sorted.branch [
      | else-place-sorted-via-then-place-sorted+else-sorted-place w ↦ grind (arith, nat_tests)
      | else-place-sorted-via-else-place-sorted w ↦ absurd (omega arith)
    ])
