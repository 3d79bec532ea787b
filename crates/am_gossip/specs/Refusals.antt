-- Reasons for refusing a step.
use Rattle.am_wire.specs.declared.error.WireError.{WireError}
use Rattle.am_wire.specs.declared.error.WireError.TheVariants as wire_errors
use Rattle.am_gossip.specs.declared.error.FrameError.TheVariants as frame_errors
use Rattle.am_gossip.specs.declared.refusals.StepError.{StepError}
use Rattle.am_gossip.specs.declared.refusals.StepError.TheVariants.{Frame, Memory}

-- a fault of a row, as a fault of a step
abbrev pub step_fault : WireError → StepError
step_fault wire_errors.Memory = Memory 0
step_fault e = Frame (frame_errors.Wire e)
