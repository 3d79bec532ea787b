use Rattle.am_report.proofs.AllDifferences.{line_of_all}
use Rattle.am_report.specs.Less.{less_word}
use Rattle.am_report.proofs.json_lines.writing.differences_of.Goals as goal

pub returns : goal.returns
returns g c =
    line_of_all g.V.Version.seen g.V.Key.Ord.cmp g.V.InJson.key_data g.V.InJson.named (g.V.InJson.value c.args.now) (less_word g.V.Version.seen g.V.WithUnknown.unknown_of g.V.WithUnknown.known_of) c.args.compared c.args.now
    c.args.replicas.now _ _ _ _ _ _ _ c.new-out.ensures.before c.new.ensures.items c.new-out.ensures.tokens c.in_ok-add.ensures c.in_ok-found.ensures
    c.in_ok-add-2.ensures c.in_ok-line.ensures
