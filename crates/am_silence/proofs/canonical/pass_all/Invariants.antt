use Rattle.std.proofs.Common.{◌-◌, length}
use Rattle.am_silence.proofs.Passed.{HasPassed}
use Rattle.am_silence.proofs.canonical.pass_all.Given as goal

abbrev pub invariant-loop-reader : goal.invariant-loop-reader
invariant-loop-reader l = HasPassed l.fn.reader l.reader

abbrev pub decreases-loop-reader : goal.decreases-loop-reader
decreases-loop-reader l = length l.reader.text - length l.reader.passed
