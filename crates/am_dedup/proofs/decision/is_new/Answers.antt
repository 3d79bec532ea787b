use Rattle.std.proofs.Common.{arith}
use Rattle.am_dedup.proofs.Marks.{first_at, less_is}
use Rattle.am_dedup.proofs.decision.is_new.Goals as goal

pub returns-then-place-eq0-clause-first : goal.returns-then-place-eq0-clause-first
returns-then-place-eq0-clause-first c = λ _.
    let first = c.if-place-eq0.true in
    first_at c.args.sorted.now c.args.place c.requires.sorted c.requires.within (λ behind. absurd (omega (arith, behind, first)))

pub returns-else-place-eq0-clause-first : goal.returns-else-place-eq0-clause-first
returns-else-place-eq0-clause-first c = λ less. first_at c.args.sorted.now c.args.place c.requires.sorted c.requires.within (λ _. less_is _ _ less)
