use Rattle.std.proofs.Common.{◌≡◌, false}
use Rattle.std.specs.List.{AllWithin}
use Rattle.am_matcher.specs.Entries.{patterns_in}
use Rattle.am_matcher.proofs.entries.unmark_all.Given as goal

abbrev pub invariant-loop-entry : goal.invariant-loop-entry
invariant-loop-entry l = record {
  same : patterns_in l.entry-items ≡ patterns_in l.fn.entries.items;
  none : AllWithin (λ e. e.is_used ≡ false) l.entry-items 0 l.entry-index;
}
