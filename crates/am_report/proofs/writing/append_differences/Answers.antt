use Rattle.std.proofs.Common.{◌≡◌, ℕ, List, ◌++◌, map, ap, ◌∙◌, subst, string_bytes}
use Rattle.std.specs.Prelude.{IfOk}
use Rattle.am_report.specs.Sources.{Source, rest_of}
use Rattle.am_report.specs.Written.{AreLines}
use Rattle.am_report.proofs.Differing.{begins_there}
use Rattle.am_report.specs.Less.{less_word}
use Rattle.am_report.proofs.writing.append_differences.Goals as goal

pub returns : goal.returns
returns g c =
    subst (λ (sources : List (Source g.row.V.Denot)). IfOk c.append_left.result (λ found. (lines : List ℕ)
    × AreLines g.V.Version.seen g.V.Key.Ord.cmp g.V.ReportLine.begins (g.V.ReportLine.told c.args.format.now) (g.V.ReportLine.more c.args.format.now) (less_word g.V.Version.seen g.V.WithUnknown.unknown_of g.V.WithUnknown.known_of) c.args.compared c.args.format.now.moment sources found lines
    × (string_bytes c.append_left.new.out ≡ string_bytes c.args.out.now ++ lines)))
    (ap (map rest_of) (c.deref_mut.ensures.value ∙ c.in_ok-sides.ensures.start) ∙ begins_there c.args.replicas.now)
    c.append_left.ensures
