use Rattle.std.proofs.Common.{◌≡◌, ◌++◌, string_bytes}
use Rattle.std.specs.Option.{option_copied}
use Rattle.am_report.specs.Views.{entry_lines}
use Rattle.am_report.proofs.view.append_log.Given as goal

abbrev pub invariant-loop-entry : goal.invariant-loop-entry
invariant-loop-entry l =
    string_bytes l.out ++ entry_lines (option_copied l.owner.0) l.now l.entry-iterator ≡ string_bytes l.fn.out ++ entry_lines (option_copied l.owner.0) l.now l.log
