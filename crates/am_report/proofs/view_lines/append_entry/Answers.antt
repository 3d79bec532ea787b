use Rattle.std.proofs.Common.{append_assoc}
use Rattle.std.proofs.lemmas.Result.{IfOk-equal}
use Rattle.am_report.specs.Views.{entry_line}
use Rattle.am_report.proofs.view_lines.append_entry.Goals as goal

pub returns : goal.returns
unfolding entry_line
returns c =
    IfOk-equal c.writeln.result _ _ _ c.writeln.ensures.bytes (rw (c.key.ensures, c.firing_alerts.ensures, c.resolved_alerts.ensures) (simp append_assoc))
