-- The outcome of a stretch of work on the answer of an Alertmanager.
use Rattle.std.specs.Prelude.{ℕ, Option, Some, None}
use Rattle.am_gossip.specs.declared.frame.Frame.{Frame as FrameOf}
use Rattle.am_alertmanager.specs.declared.replicas.Came.{Came}
use Rattle.am_alertmanager.specs.declared.replicas.Came.TheVariants.{Frame, Whole}

-- the frame that came, if one did, behind the place of its Alertmanager
abbrev pub frame_in : Came → Option (ℕ × FrameOf)
frame_in (Frame place frame) = Some (place, frame)
frame_in (Whole place (Some frame) lacked) = Some (place, frame)
frame_in _ = None
