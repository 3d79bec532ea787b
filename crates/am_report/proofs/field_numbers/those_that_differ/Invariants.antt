use Rattle.std.proofs.Common.{◌≡◌, take}
use Rattle.std.specs.Prelude.{filter}
use Rattle.am_report.specs.UnknownFields.{differs_at}
use Rattle.am_report.proofs.field_numbers.those_that_differ.Given as goal

-- those that differ of the numbers so far are found
abbrev pub invariant-loop-number : goal.invariant-loop-number
invariant-loop-number l = l.found.items ≡ filter (differs_at l.one l.other) (take l.number-index l.numbers)
