use Rattle.std.proofs.Common.{◌≡◌, take, sum_by}
use Rattle.am_matcher.specs.Entries.{entry_size}
use Rattle.am_matcher.proofs.entries.count.Given as goal

abbrev pub invariant-loop-entry : goal.invariant-loop-entry
invariant-loop-entry l = l.bytes ≡ sum_by entry_size (take l.entry-index l.entries)
