use Rattle.std.proofs.Common.{refl}
use Rattle.am_reactor.specs.Exchanges.{IsTimedOut}
use Rattle.am_reactor.proofs.Drives.{one_by_one_none, one_more, same_timed_out}
use Rattle.am_reactor.proofs.exchanges.give_up_all.Goals as goal

pub loop-init : goal.loop-init
loop-init g c = one_by_one_none _ _ _

pub loop-preserved : goal.loop-preserved
loop-preserved g c =
    one_more (IsTimedOut g.S.Service.loses) (same_timed_out g.S.Service.loses) c.in-Some.peer c.args.service.now c.args.exchanges.now c.loop.service c.loop.exchanges c.loop.exchanges
    c.time_out_exchange.new.service c.time_out_exchange.new.exchanges c.loop.invariant (λ _. refl) c.time_out_exchange.ensures.others c.time_out_exchange.ensures.told
