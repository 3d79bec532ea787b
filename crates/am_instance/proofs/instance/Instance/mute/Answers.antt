use Rattle.std.proofs.Common.{refl, subst}
use Rattle.std.proofs.lemmas.Result.{err_from_is_err_and}
use Rattle.am_matcher.specs.declared.dialect.Dialect.{Dialect}
use Rattle.am_matcher.specs.Mutes.{AreMutedIn}
use Rattle.am_instance.proofs.Works.{quiet_work, stopped_work}
use Rattle.am_instance.proofs.instance.Instance.mute.Goals as goal

pub returns-in_err-muted : goal.returns-in_err-muted
returns-in_err-muted c =
    let p = err_from_is_err_and c.from_residual.result c.from_residual.ensures.1 in
    rw p.1 (stopped_work _ _ _ c.args.now _ p.2 c.self.view_is refl)

pub returns : goal.returns
returns c =
    let muted = subst (λ (d : Dialect). AreMutedIn d c.args.labels.now c.args.now c.self.inside.silences c.in_ok-muted.muted.ids c.in_ok-muted.muted.broken) c.dialect-dialect.ensures c.in_ok-muted.ensures.muted in
    rw (← c.self.view_is) (quiet_work _ _ c.args.now c.quiet.result refl refl refl refl c.quiet.ensures.sent c.quiet.ensures.made
    (rw c.quiet.ensures.reply muted, c.quiet.ensures.made))
