use Rattle.am_merge.proofs.Keys.{key_order}
use Rattle.am_report.proofs.AllDifferences.{one_line}
use Rattle.am_report.specs.Less.{less_word}
use Rattle.am_report.proofs.json_lines.laws.a_line_is_one_text.Goals as goal

pub returns : goal.returns
returns g c = λ sources compared now found other_found line other are also.
    let keys = key_order g.met.V.Key.Ord.total g.met.V.Version.exact_keys in
    one_line g.V.Version.seen g.V.Key.Ord.cmp g.V.InJson.key_data g.V.InJson.named (g.V.InJson.value now) (less_word g.V.Version.seen g.V.WithUnknown.unknown_of g.V.WithUnknown.known_of) compared now keys sources found other_found line
    other are also
