use Rattle.std.proofs.Common.{◌+◌, ◌++◌, ap, refl, sym, ◌∙◌, drop}
use Rattle.std.proofs.lemmas.Result.{err_from_is_err_and}
use Rattle.am_instance.specs.Configs.{Settings, peers_but}
use Rattle.am_instance.specs.Deliveries.{first_fault, rows_of, rows_in}
use Rattle.am_instance.proofs.Arrivals.{begins, goes_on, ends, stops, first_fault_split}
use Rattle.am_instance.proofs.Judgements.{rows_at, none_left}
use Rattle.am_instance.proofs.instance.Instance.take_parts.Goals as goal

pub loop-part-init : goal.loop-part-init
loop-part-init c = begins _ _ _ _ _ _ _ refl c.requires

pub take_part-requires : goal.take_part-requires
take_part-requires c =
    let rest = rows_in c.args.self.now.config.unknown (drop (c.loop-part.part-index + 1) c.args.parts.now) in
    let split = rows_at c.args.self.now.config.unknown c.args.parts.now c.loop-part.part-index c.part-item.result c.loop-part-test.true c.part-item.is
    ∙ ap (λ (settings : Settings). rows_of settings.unknown c.part-item.result ++ rest) (sym c.loop-part.invariant.delivered.config) in
    (first_fault_split (rows_of c.loop-part.self.config.unknown c.part-item.result) rest (ap first_fault (sym split) ∙ c.loop-part.invariant.sound)).0

pub loop-part-preserved : goal.loop-part-preserved
loop-part-preserved c =
    let rest = rows_in c.args.self.now.config.unknown (drop (c.loop-part.part-index + 1) c.args.parts.now) in
    let split = rows_at c.args.self.now.config.unknown c.args.parts.now c.loop-part.part-index c.part-item.result c.loop-part-test.true c.part-item.is
    ∙ ap (λ (settings : Settings). rows_of settings.unknown c.part-item.result ++ rest) (sym c.loop-part.invariant.delivered.config) in
    let took = c.in_ok-take_part.ensures in
    goes_on _ _ _ _ _ (rows_of c.loop-part.self.config.unknown c.part-item.result) rest c.loop-part.self c.take_part.new.self _ c.loop-part.taken c.take_part.new.taken _ _ _
    (peers_but c.loop-part.self.config c.args.sender) c.loop-part.invariant split (ap (λ config. peers_but config c.args.sender) c.loop-part.invariant.delivered.config)
    took.delivered took.count took.sent

pub returns-clause-delivered : goal.returns-clause-delivered
returns-clause-delivered c = (ends _ _ _ _ _ _ _ _ _ _ c.loop-part.invariant (none_left c.args.self.now.config.unknown c.args.parts.now c.loop-part.part-index c.loop-part-test.false)).0

pub returns-clause-count : goal.returns-clause-count
returns-clause-count c = (ends _ _ _ _ _ _ _ _ _ _ c.loop-part.invariant (none_left c.args.self.now.config.unknown c.args.parts.now c.loop-part.part-index c.loop-part-test.false)).1

pub returns-clause-sent : goal.returns-clause-sent
returns-clause-sent c = (ends _ _ _ _ _ _ _ _ _ _ c.loop-part.invariant (none_left c.args.self.now.config.unknown c.args.parts.now c.loop-part.part-index c.loop-part-test.false)).2

pub returns-in_err-take_part-clause-stopped : goal.returns-in_err-take_part-clause-stopped
returns-in_err-take_part-clause-stopped c =
    let p = err_from_is_err_and c.from_residual.result c.from_residual.ensures.1 in
    let rest = rows_in c.args.self.now.config.unknown (drop (c.loop-part.part-index + 1) c.args.parts.now) in
    let split = rows_at c.args.self.now.config.unknown c.args.parts.now c.loop-part.part-index c.part-item.result c.loop-part-test.true c.part-item.is
    ∙ ap (λ (settings : Settings). rows_of settings.unknown c.part-item.result ++ rest) (sym c.loop-part.invariant.delivered.config) in
    rw p.1 (stops _ _ _ _ _ (rows_of c.loop-part.self.config.unknown c.part-item.result) rest c.loop-part.self c.take_part.new.self _ c.loop-part.taken c.take_part.new.taken _ _
    c.loop-part.invariant split c.in_err-take_part.ensures.stopped)
