use Rattle.std.proofs.Common.{ap, ◌∙◌, rules}
use Rattle.std.proofs.lemmas.Fn.{filter_same}
use Rattle.am_api_decisions.specs.Recent.{is_of_another, of_others}
use Rattle.am_api_decisions.proofs.recent.RecentAlerts.forget.Goals as goal

pub returns : goal.returns
returns c =
    filter_same _ (is_of_another c.args.group_key.now) _ (λ x b f' k. search rules) _ _ c.retain.ensures.filtered
    ∙ ap (of_others c.args.group_key.now) c.self.view_is
