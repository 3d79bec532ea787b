use Rattle.std.proofs.Common.{◌∙◌, ap, sym}
use Rattle.am_server.specs.Transfers.{behind_part, part_frame}
use Rattle.am_server.specs.declared.state_transfer.StateTransfer.{StateTransfer}
use Rattle.am_daemon.proofs.member.links.part_for.Goals as goal

pub returns-in-Ok-clause-part : goal.returns-in-Ok-clause-part
returns-in-Ok-clause-part g c = (
  c.in_ok-left.left,
  c.in-Ok.part,
  sym c.in_ok-left.ensures.left,
  c.in-Ok.ensures.part,
  c.frame_of.ensures.frame ∙ ap (λ (t : StateTransfer). part_frame t c.in-Ok.part.state c.in-Ok.part.next) c.in_ok-left.ensures.taken,
  c.frame_of.ensures.goes_on ∙ ap (λ (t : StateTransfer). behind_part t c.in-Ok.part.next) c.in_ok-left.ensures.taken,
)
