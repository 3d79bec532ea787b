use Rattle.std.proofs.Common.{[], ◌∷◌, ◌++◌, ap, sym, ◌∙◌, arith}
use Rattle.am_api_decisions.specs.Recent.{kept_of}
use Rattle.am_api_decisions.proofs.Kept.{with_next}
use Rattle.am_api_decisions.proofs.recent.kept_of.Goals as goal

pub loop-alert-preserved : goal.loop-alert-preserved
loop-alert-preserved c =
    c.in_ok-keep.ensures ∙ ap (λ so_far. so_far ++ kept_of c.args.group_key.now (c.alert-item.result ∷ [])) c.loop-alert.invariant
    ∙ sym (with_next c.args.group_key.now c.args.alerts.now c.loop-alert.alert-index c.alert-item.result (omega arith) c.alert-item.is)
