use Rattle.std.proofs.Common.{map, ap, ◌∙◌, subst}
use Rattle.std.specs.Prelude.{List, IfOk}
use Rattle.am_report.specs.Sources.{Source, rest_of}
use Rattle.am_report.proofs.Differing.{begins_there}
use Rattle.am_report.specs.Json.Written.{AreAdded}
use Rattle.am_report.specs.Less.{less_word}
use Rattle.am_report.proofs.json_lines.writing.add_differences.Goals as goal

pub returns : goal.returns
returns g c =
    subst (λ (sources : List (Source g.row.V.Denot)). IfOk c.add_left.result (λ found.
    AreAdded g.V.Version.seen g.V.Key.Ord.cmp g.V.InJson.key_data g.V.InJson.named (g.V.InJson.value c.args.now) (less_word g.V.Version.seen g.V.WithUnknown.unknown_of g.V.WithUnknown.known_of) c.args.compared c.args.now sources found
    c.args.out.now c.add_left.new.out))
    (ap (map rest_of) (c.deref_mut.ensures.value ∙ c.in_ok-sides.ensures.start) ∙ begins_there c.args.replicas.now)
    c.add_left.ensures
