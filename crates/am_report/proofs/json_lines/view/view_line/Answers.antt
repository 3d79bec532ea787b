use Rattle.std.proofs.Common.{map}
use Rattle.serde_json.specs.Data.{array}
use Rattle.serde_json.specs.View.{items_of}
use Rattle.am_merge.specs.Maps.{swept}
use Rattle.am_report.proofs.Adding.{line_is}
use Rattle.am_report.proofs.json_lines.view.view_line.Goals as goal

pub returns : goal.returns
returns g c =
    line_is _ _ _ _ (array (items_of (map (g.V.InJson.value c.args.now) (swept g.V.Version.seen c.args.now c.args.held.now))))
    c.new-out.ensures.before c.new.ensures.items c.new-out.ensures.tokens c.in_ok-add_view.ensures c.in_ok-line.ensures
