use Rattle.std.proofs.Common.{append_assoc}
use Rattle.std.proofs.lemmas.Result.{IfOk-equal}
use Rattle.am_report.specs.ReportLine.{group_words}
use Rattle.am_report.proofs.group_lines.append_group.Goals as goal

pub returns : goal.returns
unfolding group_words
returns g c =
    IfOk-equal c.append_told.result _ _ _ c.append_told.ensures
    (rw (c.in_ok-write-2.ensures.bytes, c.in_ok-append_names.ensures, c.in_ok-write.ensures.bytes) (simp append_assoc))
