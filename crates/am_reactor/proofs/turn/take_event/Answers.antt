use Rattle.am_reactor.proofs.Peering.{loops_act, loops_heard, loops_moved}
use Rattle.am_reactor.proofs.turn.take_event.Goals as goal

pub returns-then-not-read_on : goal.returns-then-not-read_on
returns-then-not-read_on g c = loops_act g.S.Service _ _ _ _ _ c.input_ended.ensures

pub returns-in-Link : goal.returns-in-Link
returns-in-Link g c = loops_moved g.S.Service _ _ _ _ _ _ _ c.flush_link.ensures.others c.flush_link.ensures.moved

pub returns-in-Exchange : goal.returns-in-Exchange
returns-in-Exchange g c = loops_heard g.S.Service _ _ _ _ _ _ _ _ c.drive_exchange.ensures.others c.drive_exchange.ensures.heard
