use Rattle.std.proofs.Common.{◌≡◌, drop}
use Rattle.am_instance.specs.Deliveries.{first_fault, rows_in}
use Rattle.am_instance.proofs.frames.judge_parts.Given as goal

abbrev pub invariant-loop-part : goal.invariant-loop-part
invariant-loop-part l = first_fault (rows_in l.unknown (drop l.part-index l.parts)) ≡ first_fault (rows_in l.unknown l.parts)
