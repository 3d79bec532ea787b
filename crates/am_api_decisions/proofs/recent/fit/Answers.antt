use Rattle.std.proofs.Common.{arith}
use Rattle.am_api_decisions.proofs.Kept.{all_fit, one_less, too_large}
use Rattle.am_api_decisions.proofs.recent.fit.Goals as goal

pub loop-label-preserved : goal.loop-label-preserved
loop-label-preserved c =
    one_less c.args.labels.now c.loop-label.label-index c.args.room c.loop-label.left c.in-Some.less c.label-item.result (omega arith) c.label-item.is
    c.loop-label.invariant c.in-Some.ensures.0 c.in-Some.ensures.1

pub returns-in-None : goal.returns-in-None
returns-in-None c =
    too_large c.args.labels.now c.loop-label.label-index c.args.room c.loop-label.left c.label-item.result (omega arith) c.label-item.is
    c.loop-label.invariant c.in-None.ensures

pub returns : goal.returns
returns c = all_fit c.args.labels.now c.loop-label.label-index c.args.room c.loop-label.left (omega arith) c.loop-label.invariant
