use Rattle.std.proofs.Common.{sym, ◌∙◌, ap, ◌&&◌, drop}
use Rattle.std.specs.FinSet.{is_subset}
use Rattle.am_dedup.specs.Decisions.{set_of}
use Rattle.am_dedup.proofs.Sets.{is_same, parts_within, none_within}
use Rattle.am_dedup.proofs.decision.are_groups_within.Goals as goal

pub returns-then-not-is_group_within : goal.returns-then-not-is_group_within
returns-then-not-is_group_within c =
    let rest = c.loop-rest.rest.now in
    let others = set_of c.args.listed.now in
    sym (c.loop-rest.invariant
    ∙ parts_within rest c.args.listed.now c.min.result
    ∙ ap (λ b. b && is_subset (set_of (drop c.min.result rest)) others) (ap (λ l. is_subset (set_of l) others) (sym c.split_at.ensures.front) ∙ sym c.is_group_within.ensures ∙ c.if-not-is_group_within.true))

pub loop-rest-preserved : goal.loop-rest-preserved
loop-rest-preserved c =
    let rest = c.loop-rest.rest.now in
    let others = set_of c.args.listed.now in
    c.loop-rest.invariant
    ∙ parts_within rest c.args.listed.now c.min.result
    ∙ ap (λ b. b && is_subset (set_of (drop c.min.result rest)) others) (ap (λ l. is_subset (set_of l) others) (sym c.split_at.ensures.front) ∙ sym c.is_group_within.ensures ∙ c.if-not-is_group_within.false)
    ∙ ap (λ l. is_subset (set_of l) others) (sym c.split_at.ensures.back)

pub returns : goal.returns
returns c = sym (c.loop-rest.invariant ∙ none_within c.loop-rest.rest.now c.args.listed.now (is_same _ 0 (sym c.is_empty.ensures ∙ c.loop-rest-test.false)))
