use Rattle.std.proofs.Common.{List, ℕ, [], ◌∷◌, ◌++◌, map, ap, ◌∙◌}
use Rattle.serde_json.specs.Data.{array}
use Rattle.serde_json.specs.View.{items_of}
use Rattle.am_silence_json.proofs.Bodies.{body_is}
use Rattle.am_api_decisions.specs.Recent.{alert_data}
use Rattle.am_api_decisions.proofs.recent.line_of.Goals as goal

pub returns : goal.returns
returns c =
    c.in_ok-push.ensures.items ∙ ap (λ (text : List ℕ). text ++ 10 ∷ []) (body_is _ _ [] _ (array (items_of (map alert_data c.args.alerts.now)))
    (c.new-out.ensures.before ∙ c.new.ensures.items) c.new-out.ensures.tokens c.in_ok-add_alerts.ensures c.into_inner-line.ensures.items)
