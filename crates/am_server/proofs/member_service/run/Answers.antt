use Rattle.am_server.proofs.Lived.{history_always_lived}
use Rattle.am_server.proofs.member_service.run.Goals as goal

pub returns-clause-lived : goal.returns-clause-lived
returns-clause-lived g c =
    let led = c.run.ensures.led in (
      led.0,
      led.1,
      history_always_lived g.S.MemberService.instance_of g.S.MemberService.accords g.S.MemberService.is_so g.S.Service _ g.S.MemberService.so_of_none g.S.MemberService.so_of_accord g.met.S.MemberService.begins_fresh
          g.met.S.MemberService.acts_alone g.met.S.MemberService.does_for_one _ _
          led.1.happenings _ _ led.0 led.1.happens,
    )
