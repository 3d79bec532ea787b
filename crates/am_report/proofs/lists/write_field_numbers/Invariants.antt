use Rattle.std.proofs.Common.{take}
use Rattle.std.specs.Fmt.{decimal, HasWritten, IsPlainFormatter}
use Rattle.am_report.specs.Lists.{behind_commas}
use Rattle.am_report.proofs.lists.write_field_numbers.Given as goal

abbrev pub invariant-loop-number : goal.invariant-loop-number
invariant-loop-number g l =
    IsPlainFormatter l.initial.f → HasWritten g.W.Write.write_str_gives l.initial.f (behind_commas decimal (take l.number-index l.numbers)) l.f
