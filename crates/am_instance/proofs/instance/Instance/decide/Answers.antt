use Rattle.std.proofs.Common.{◌≡◌, Option, Some, None, option_map, refl, ap, ◌∙◌}
use Rattle.std.proofs.lemmas.Result.{err_from_is_err_and}
use Rattle.am_nflog.specs.Mesh.{Mesh}
use Rattle.am_dedup.specs.declared.decision.Decision.{Decision}
use Rattle.am_dedup.specs.Decisions.{logged}
use Rattle.am_instance.specs.declared.reply.Reply.TheVariants as replies
use Rattle.am_instance.proofs.Works.{quiet_work, stopped_work}
use Rattle.am_instance.proofs.instance.Instance.decide.Goals as goal

logged_once : (version : Option Mesh) → option_map logged (option_map (λ m. m.entry) version) ≡ option_map (λ m. logged m.entry) version
logged_once None = refl
logged_once (Some m) = refl

pub returns-in_err-key : goal.returns-in_err-key
returns-in_err-key c =
    let p = err_from_is_err_and c.from_residual.result c.from_residual.ensures.1 in
    rw p.1 (stopped_work c.args.self.now c.args.self.now _ c.args.now _ p.2 refl refl)

pub returns : goal.returns
returns c =
    let decided = rw (c.as_slice-2.ensures, c.as_slice-3.ensures, c.entry_in_view.ensures, c.in_ok-key.ensures, c.as_slice.ensures, logged_once _) at c.decide_over-decision.ensures in
    rw (← c.self.view_is) (quiet_work _ _ c.args.now c.quiet.result refl refl refl refl c.quiet.ensures.sent c.quiet.ensures.made
    (c.quiet.ensures.reply ∙ ap (λ (d : Decision). replies.Decided d) decided, c.quiet.ensures.made))
