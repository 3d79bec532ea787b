use Rattle.std.proofs.Common.{◌≡◌, ◌++◌, take, string_bytes}
use Rattle.std.specs.List.{flat_map}
use Rattle.std.specs.Option.{option_copied}
use Rattle.am_report.specs.Views.{entry_line}
use Rattle.am_report.proofs.shown.append_entries.Given as goal

abbrev pub invariant-loop-entry : goal.invariant-loop-entry
invariant-loop-entry l =
    string_bytes l.out ≡ string_bytes l.fn.out ++ flat_map (entry_line (option_copied l.owner.0)) (take l.entry-index l.log)
