use Rattle.std.proofs.Common.{◌≡◌, ◌++◌, string_bytes}
use Rattle.std.specs.Option.{option_copied}
use Rattle.am_report.specs.Views.{silence_lines}
use Rattle.am_report.proofs.view.append_silences.Given as goal

abbrev pub invariant-loop-silence : goal.invariant-loop-silence
invariant-loop-silence l =
    string_bytes l.out ++ silence_lines (option_copied l.owner.0) l.now l.silence-iterator ≡ string_bytes l.fn.out ++ silence_lines (option_copied l.owner.0) l.now l.silences
