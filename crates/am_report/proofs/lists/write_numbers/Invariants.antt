use Rattle.std.proofs.Common.{◌≡◌, ℕ, List, ◌++◌}
use Rattle.std.specs.Fmt.{decimal, HasWritten, IsPlainFormatter}
use Rattle.am_report.specs.Lists.{behind_commas}
use Rattle.am_report.proofs.lists.write_numbers.Given as goal

-- the numbers before those that are left are written
abbrev pub invariant-loop-number : goal.invariant-loop-number
invariant-loop-number g l =
    (done : List ℕ) × (done ++ l.number-iterator ≡ l.fn.numbers)
    × (IsPlainFormatter l.initial.f → HasWritten g.W.Write.write_str_gives l.initial.f (behind_commas decimal done) l.f)
