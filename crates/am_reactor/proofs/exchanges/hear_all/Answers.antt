use Rattle.std.proofs.Common.{arith, length, refl}
use Rattle.am_reactor.specs.Exchanges.{IsDriven}
use Rattle.am_reactor.proofs.Drives.{driven_room, one_by_one_none, one_by_one_same, one_more, same_driven}
use Rattle.am_reactor.proofs.exchanges.hear_all.Goals as goal

pub loop-init : goal.loop-init
loop-init g c = one_by_one_none _ _ _

pub loop-preserved : goal.loop-preserved
loop-preserved g c =
    one_more (IsDriven g.C.Stream.arrived g.C.Stream.gone g.S.Service.answers g.S.Service.loses (length c.args.piece.now))
    (same_driven g.C.Stream.arrived g.C.Stream.gone g.S.Service.answers g.S.Service.loses (length c.args.piece.now))
    c.in-Some.peer c.args.service.now c.args.exchanges.now c.loop.service c.loop.exchanges c.loop.exchanges
    c.drive_exchange.new.service c.drive_exchange.new.exchanges c.loop.invariant (λ _. refl) c.drive_exchange.ensures.others
    (driven_room g.C.Stream.arrived g.C.Stream.gone g.S.Service.answers g.S.Service.loses (length c.loop.piece) (length c.args.piece.now) c.in-Some.peer c.loop.service c.loop.exchanges
    c.drive_exchange.new.service c.drive_exchange.new.exchanges (omega arith) c.drive_exchange.ensures.heard)

pub returns-in-None : goal.returns-in-None
returns-in-None g c = (
  c.loop.invariant.0,
  one_by_one_same (IsDriven g.C.Stream.arrived g.C.Stream.gone g.S.Service.answers g.S.Service.loses (length c.args.piece.now)) _ _ _ _ c.loop.exchanges _ c.loop.invariant.1 (λ _. refl),
)
