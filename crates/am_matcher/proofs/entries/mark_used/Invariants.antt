use Rattle.std.proofs.Common.{◌≡◌}
use Rattle.am_matcher.specs.Uses.{is_used_by, SilencesPass}
use Rattle.am_matcher.specs.Entries.{patterns_in, MarkedPass}
use Rattle.am_matcher.proofs.entries.mark_used.Given as goal

abbrev pub invariant-loop-version : goal.invariant-loop-version
invariant-loop-version l = record {
  same : patterns_in l.entries.items ≡ patterns_in l.fn.entries.items;
  rest : SilencesPass (is_used_by l.held) l.version-iterator;
  used : MarkedPass (is_used_by l.held) l.entries.items;
}
