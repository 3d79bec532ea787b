use Rattle.std.proofs.Common.{◌≡◌, ◌++◌, take, string_bytes}
use Rattle.std.specs.Option.{option_copied}
use Rattle.am_report.specs.Views.{state_lines}
use Rattle.am_report.proofs.shown.append_states.Given as goal

abbrev pub invariant-loop-silence : goal.invariant-loop-silence
invariant-loop-silence l =
    string_bytes l.out ≡ string_bytes l.fn.out ++ state_lines (option_copied l.owner.0) (take l.silence-index l.silences)
