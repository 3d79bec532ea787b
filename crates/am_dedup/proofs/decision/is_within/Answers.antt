use Rattle.std.proofs.Common.{rules, arith, ◌≡◌, get_or, false, sym, ◌∙◌}
use Rattle.am_dedup.proofs.Sets.{is_among, all_within, not_within, last_part}
use Rattle.am_dedup.proofs.decision.is_within.Goals as goal

pub returns-then-turns_left-eq0 : goal.returns-then-turns_left-eq0
returns-then-turns_left-eq0 c = c.are_groups_within.ensures ∙ last_part c.args.hashes.now c.args.listed.now c.loop-count.count c.loop-count.invariant.found

pub returns-then-not-skip_past-2 : goal.returns-then-not-skip_past-2
returns-then-not-skip_past-2 c =
    let missing : is_among c.args.listed.now (get_or c.args.hashes.now c.loop-count.count 0) ≡ false = search rules in
    sym (not_within c.args.hashes.now c.args.listed.now c.loop-count.count c.loop-count-test.true missing)

pub returns : goal.returns
returns c = sym (all_within c.args.hashes.now c.args.listed.now c.loop-count.count (omega arith) c.loop-count.invariant.found)
