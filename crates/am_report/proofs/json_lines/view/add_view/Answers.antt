use Rattle.std.proofs.Common.{map}
use Rattle.am_merge.specs.Maps.{swept}
use Rattle.am_silence_json.proofs.Bodies.{list_is}
use Rattle.am_report.proofs.json_lines.view.add_view.Goals as goal

pub returns : goal.returns
returns g c =
    list_is _ _ _ _ (map (g.V.InJson.value c.args.now) (swept g.V.Version.seen c.args.now c.args.held.now)) c.in_ok-add.ensures c.in_ok-add_live.ensures
    c.in_ok-add-2.ensures
