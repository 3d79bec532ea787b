use Rattle.std.proofs.Common.{◌∙◌}
use Rattle.am_reactor.proofs.Histories.{closes_one, leads_closes, leads_written, under_same}
use Rattle.am_reactor.proofs.connections.drive_connection.Goals as goal

pub returns-in-Some-pace-clause-led : goal.returns-in-Some-pace-clause-led
returns-in-Some-pace-clause-led g c =
    let n = c.note-change in
    leads_written g.S.Service _ _ _ _ _ _ _ _ n.new.connection _ (c.place.ensures ∙ c.weigh.ensures.table) c.in-Some.ensures.value
    (under_same g.S.Service _ _ _ _ _ _ c.poll_connection-pace.new.connection n.new.connection n.ensures.session n.ensures.stream n.ensures.phase c.poll_connection-pace.ensures.led)

pub returns-in-None-clause-led : goal.returns-in-None-clause-led
returns-in-None-clause-led g c first begun leads =
    let n = c.note-change in
    leads_closes g.S.Service _ _ _ _ _ _ (closes_one _ _ _ c.remove.ensures.removed) first begun
    (leads_written g.S.Service _ _ _ _ _ _ _ _ n.new.connection c.weigh.new.self.table c.weigh.ensures.table c.in-Some.ensures.value
    (under_same g.S.Service _ _ _ _ _ _ c.poll_connection-pace.new.connection n.new.connection n.ensures.session n.ensures.stream n.ensures.phase c.poll_connection-pace.ensures.led) first begun leads)
