use Rattle.std.proofs.Common.{◌≡◌, ◌≤◌, ◌-◌, ◌++◌, length, take}
use Rattle.am_report.proofs.field_numbers.least_numbers.Given as goal

-- with the first of those that are left, they are all
abbrev pub invariant-loop-number : goal.invariant-loop-number
invariant-loop-number l = record {
  within : length l.least.items ≤ l.most;
  whole : l.least.items ++ take (l.most - length l.least.items) l.number-iterator ≡ take l.most l.numbers.keys;
}
