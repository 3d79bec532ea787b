use Rattle.std.proofs.Common.{◌∙◌, ap, subst}
use Rattle.am_matcher.specs.declared.dialect.Dialect.{Dialect}
use Rattle.am_instance.specs.Configs.{Settings}
use Rattle.am_api_silences.specs.Events.{IsEventIn}
use Rattle.am_api_silences.proofs.answering.event_at.Goals as goal

pub returns : goal.returns
returns c =
    subst (λ (d : Dialect). IsEventIn d c.args.request.now c.args.bits c.event_by.result)
    (c.dialect-dialect.ensures ∙ ap (λ (s : Settings). s.dialect) c.config.ensures) c.event_by.ensures
