use Rattle.std.proofs.Common.{List, refl, ap, ◌∙◌}
use Rattle.std.proofs.lemmas.Result.{err_from_is_err_and}
use Rattle.am_silence.specs.declared.matcher.Matcher.{Matcher}
use Rattle.am_instance.specs.Replies.{silences_shown}
use Rattle.am_instance.proofs.Works.{quiet_work, stopped_work}
use Rattle.am_instance.proofs.instance.Instance.show.Goals as goal

pub returns-in_err-silences : goal.returns-in_err-silences
returns-in_err-silences c =
    let p = err_from_is_err_and c.from_residual.result c.from_residual.ensures.1 in
    rw p.1 (stopped_work c.args.self.now c.args.self.now _ c.args.now _ p.2 refl refl)

pub returns-in_err-log : goal.returns-in_err-log
returns-in_err-log c =
    let p = err_from_is_err_and c.from_residual-in_err-log.result c.from_residual-in_err-log.ensures.1 in
    rw p.1 (stopped_work c.args.self.now c.args.self.now _ c.args.now _ p.2 refl refl)

pub returns : goal.returns
returns c =
    let rows = c.in_ok-silences.ensures.rows ∙ ap (λ (filters : List Matcher). silences_shown c.args.now filters c.self.inside.silences) c.new.ensures.items in
    rw (← c.self.view_is) (quiet_work _ _ c.args.now c.quiet.result refl refl refl refl c.quiet.ensures.sent c.quiet.ensures.made
    (rw c.quiet.ensures.reply (rows, c.in_ok-log.ensures), c.quiet.ensures.made))
