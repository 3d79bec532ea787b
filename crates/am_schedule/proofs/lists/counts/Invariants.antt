use Rattle.std.proofs.Common.{◌≡◌, ◌++◌, drop, map}
use Rattle.std.specs.Prelude.{option_map}
use Rattle.am_schedule.specs.Numbers.{count_in}
use Rattle.am_schedule.specs.Lists.{values}
use Rattle.am_schedule.proofs.lists.counts.Given as goal

abbrev pub invariant-loop-word : goal.invariant-loop-word
invariant-loop-word l = option_map (λ ys. l.numbers.items ++ ys) (values count_in (map (λ w. w.now) (drop l.word-index l.words))) ≡ values count_in (map (λ w. w.now) l.words)
