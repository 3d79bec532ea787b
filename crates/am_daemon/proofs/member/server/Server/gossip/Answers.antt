use Rattle.std.proofs.Common.{◌∙◌, refl}
use Rattle.am_alertmanager.specs.Comings.{frame_in}
use Rattle.am_daemon.proofs.Acting.{sent_between}
use Rattle.am_daemon.proofs.member.server.Server.gossip.Goals as goal

pub returns : goal.returns
returns g c = (frame_in c.resume-came.result, sent_between (frame_in c.resume-came.result) _ _ _ _ _ _ _ _ refl refl (c.report_dropped.ensures ∙ c.report_withheld.ensures) c.take_came.ensures)
