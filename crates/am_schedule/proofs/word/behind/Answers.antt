use Rattle.std.proofs.Common.{◌-◌, ◌≤◌, length, drop, arith, length-drop, refl}
use Rattle.std.proofs.lemmas.List.{take_all}
use Rattle.std.proofs.lemmas.List.{drop-map}
use Rattle.am_schedule.proofs.word.behind.Goals as goal

pub returns-then-place-words : goal.returns-then-place-words
returns-then-place-words c =
    let fits : length (drop c.args.place c.args.words.now) ≤ length c.args.words.now - c.args.place = simp length-drop (omega arith) in
    rw (take_all _ _ fits, drop-map) refl
