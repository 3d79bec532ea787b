-- The taking of an Alertmanager's answer.
use Rattle.std.proofs.Common.{ℕ, Option, None, Some}
use Rattle.std.specs.Prelude.{option_map}
use Rattle.am_alertmanager.specs.Comings.{frame_in}
use Rattle.am_alertmanager.specs.declared.replicas.Came.TheVariants.{Whole}
use Rattle.am_gossip.specs.declared.frame.Frame.{Frame}
use Rattle.am_instance.specs.InstanceStates.{InstanceState}
use Rattle.am_daemon.specs.Offers.{ForPeers}
use Rattle.am_daemon.specs.Sending.{FrameIsSentOn}

-- the last frame of an answer, if there is one
pub last_came : (place : ℕ) (frame : Option Frame) (lacked : ℕ) (disk : Option ℕ) (old new : InstanceState) (was is : ForPeers) →
    FrameIsSentOn (option_map (λ (came : Frame). (place, came)) frame) disk old was new is → FrameIsSentOn (frame_in (Whole place frame lacked)) disk old was new is
last_came place None lacked disk old new was is same = same
last_came place (Some frame) lacked disk old new was is step = step
