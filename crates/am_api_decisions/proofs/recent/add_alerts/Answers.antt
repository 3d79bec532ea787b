use Rattle.std.proofs.Common.{map}
use Rattle.am_silence_json.proofs.Bodies.{list_is}
use Rattle.am_api_decisions.specs.Recent.{alert_data}
use Rattle.am_api_decisions.proofs.recent.add_alerts.Goals as goal

pub returns : goal.returns
returns c =
    list_is _ _ _ _ (map alert_data c.args.alerts.now) c.in_ok-add.ensures c.in_ok-add_each_alert.ensures c.in_ok-add-2.ensures
