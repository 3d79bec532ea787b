use Rattle.am_instance.specs.Configs.{places_but}
use Rattle.am_instance.specs.Sendings.{Sends, addressed, delta}
use Rattle.am_instance.proofs.frame_sender.FrameSender.send_version.Given as goal

abbrev pub invariant-loop-place : goal.invariant-loop-place
invariant-loop-place l = Sends (addressed (places_but l.place l.route.own l.route.origin) (delta l.key l.content)) l.initial.self l.self
