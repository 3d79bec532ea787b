use Rattle.std.proofs.Common.{Some, ap, option_map, subst, sym}
use Rattle.am_reactor.specs.History.{leaves_in, line_of, lines}
use Rattle.am_reactor.specs.Streams.{IsSilent, arrived_over, gone_over}
use Rattle.am_reactor.proofs.Histories.{leads_away, leads_came, lines_with}
use Rattle.am_reactor.proofs.Peering.{loops_act, loops_apart}
use Rattle.am_reactor.proofs.turn.admit.Goals as goal

pub returns-in-Ok : goal.returns-in-Ok
returns-in-Ok g c first begun loops =
    let made = c.new-connection in
    let inserted = c.in-Ok.ensures.inserted in
    c.enter.ensures first begun (loops_apart g.S.Service _ _ _ _ _ _
    (leads_came g.S.Service _ _ _ c.in-Ok.key c.make_room.new.service c.begin-session.new.self (line_of made.result) (lines c.make_room.new.reactor.connections.table) _
    (subst (λ x. g.S.Service.begins c.make_room.new.service x c.begin-session.new.self) (sym made.ensures.session) c.begin-session.ensures) (ap leaves_in made.ensures.stays)
    (subst (λ s. IsSilent (arrived_over s) (gone_over s)) (sym made.ensures.stream) c.new-stream.ensures)
    (ap (option_map line_of) c.in-Ok.ensures.was_free) (lines_with c.make_room.new.reactor.connections.table c.insert.new.self.table c.in-Ok.key (Some made.result) inserted.changed inserted.others))
    first begun (c.make_room.ensures first begun loops))

pub returns-in-Err : goal.returns-in-Err
returns-in-Err g c first begun loops =
    loops_act g.S.Service _ _ _ _ _ c.accept_failed.ensures first begun (loops_apart g.S.Service _ _ _ _ _ _
    (leads_away g.S.Service _ _ _ _ _ _ _ _ c.begin-session.ensures (λ key. ap (option_map line_of) (c.in-Err.ensures.unchanged key))) first begun
    (c.make_room.ensures first begun loops))
