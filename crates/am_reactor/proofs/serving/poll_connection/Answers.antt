use Rattle.std.proofs.Common.{ap}
use Rattle.am_reactor.specs.History.{leaves_in, line_of}
use Rattle.am_reactor.proofs.Histories.{leads_still, leads_throws, throws_behind}
use Rattle.am_reactor.proofs.serving.poll_connection.Goals as goal

pub returns-then-ne-clause-led : goal.returns-then-ne-clause-led
returns-then-ne-clause-led g c = leads_throws g.S.Service _ _ _ _ _ _ _ c.drain.ensures.thrown.1

pub returns-in-Ok-2-clause-led : goal.returns-in-Ok-2-clause-led
returns-in-Ok-2-clause-led g c key others first begun leads =
    let still = c.shutdown_write.ensures in
    leads_throws g.S.Service _ _ _ _ _ (line_of c.read_and_write.new.connection) (line_of c.drain-in-Ok-2.new.connection)
    (throws_behind _ _ _ (line_of c.read_and_write.new.connection) (line_of c.shutdown_write.new.connection) (line_of c.drain-in-Ok-2.new.connection)
    still.session still.unread still.unwritten c.drain-in-Ok-2.ensures.thrown.1) key others first begun (c.read_and_write.ensures.led key others first begun leads)

pub returns-in-Ok-3-clause-led : goal.returns-in-Ok-3-clause-led
returns-in-Ok-3-clause-led g c key others first begun leads =
    let still = c.shutdown_write.ensures in
    leads_still g.S.Service _ _ _ _ (line_of c.read_and_write.new.connection) (line_of c.shutdown_write.new.connection)
    (record { session = still.session; unread = still.unread; unwritten = still.unwritten; leaves = ap leaves_in (still.kept c.if-shutdown_write.false) })
    key others first begun (c.read_and_write.ensures.led key others first begun leads)
