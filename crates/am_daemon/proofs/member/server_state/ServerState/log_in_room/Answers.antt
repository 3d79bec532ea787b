use Rattle.am_server.proofs.Calls.{own_replied}
use Rattle.am_server.proofs.Sayings.{told_own}
use Rattle.am_server.specs.Talks.OwnCause.{StateTooLarge}
use Rattle.std.proofs.Common.{◌∙◌, refl}
use Rattle.am_daemon.proofs.Sending.{outlets_are, passed_between, still_on}
use Rattle.am_daemon.proofs.member.server_state.ServerState.log_in_room.Goals as goal

pub returns-then-not-has_room_for_notice-clause-called : goal.returns-then-not-has_room_for_notice-clause-called
returns-then-not-has_room_for_notice-clause-called g c = λ request asked. own_replied request _ _ _ (told_own StateTooLarge _ c.new.ensures)

pub returns-then-not-has_room_for_notice-clause-sent : goal.returns-then-not-has_room_for_notice-clause-sent
returns-then-not-has_room_for_notice-clause-sent g c = still_on _ _ _ _ refl (outlets_are _ _ _ _ _ c.if-not-has_room_for_notice.ensures.store c.if-not-has_room_for_notice.ensures.outbound)

pub returns-clause-sent : goal.returns-clause-sent
returns-clause-sent g c = passed_between _ _ _ _ _ _ _ _ refl refl
    (outlets_are _ _ _ _ _ c.take.ensures.store c.take.ensures.outbound ∙ outlets_are _ _ _ _ _ c.if-not-has_room_for_notice.ensures.store c.if-not-has_room_for_notice.ensures.outbound)
    refl c.log.ensures.sent
