use Rattle.std.proofs.Common.{◌≡◌, ◌<◌, ◌≤◌, ◌+◌, ◌-◌, [], drop, length, length-drop, arith, refl}
use Rattle.std.specs.Prelude.{◌==◌}
use Rattle.std.specs.List.{position_or_len}
use Rattle.std.proofs.lemmas.List.{take_all}
use Rattle.std.proofs.lemmas.Grind.{common_steps}
use Rattle.am_schedule.proofs.Splitting.{last_line, front_line}
use Rattle.am_schedule.specs.Schedules.{lines_of}
use Rattle.am_schedule.proofs.text.first_line.Goals as goal

pub returns-then-is_empty-clause-lines : goal.returns-then-is_empty-clause-lines
unfolding lines_of
returns-then-is_empty-clause-lines c = let none : c.args.text.now ≡ [] = grind (arith, common_steps) in rw none refl

pub returns-then-end-text-clause-lines : goal.returns-then-end-text-clause-lines
returns-then-end-text-clause-lines c =
    let some : 0 < length c.args.text.now = grind (arith, common_steps) in
    last_line c.args.text.now some (omega arith)

pub returns-clause-lines : goal.returns-clause-lines
returns-clause-lines c =
    let inside : position_or_len (λ b. b == 10) c.args.text.now < length c.args.text.now = omega arith in
    let fits : length (drop (c.line_end-end.result + 1) c.args.text.now) ≤ length c.args.text.now - (c.line_end-end.result + 1) = simp length-drop (omega arith) in
    rw (take_all _ _ fits, c.line_end-end.ensures.place) (front_line c.args.text.now inside)
