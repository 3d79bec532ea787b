use Rattle.std.proofs.Common.{append_assoc, sym}
use Rattle.std.proofs.lemmas.Result.{IfOk-equal}
use Rattle.am_report.proofs.FieldNumbers.{line_of_some}
use Rattle.am_report.proofs.long.append_fields.Goals as goal

pub returns : goal.returns
returns c =
    IfOk-equal c.writeln.result _ _ _ c.writeln.ensures.bytes (rw (← line_of_some c.args.numbers.now (sym c.if-is_empty.ensures)) (simp append_assoc))
