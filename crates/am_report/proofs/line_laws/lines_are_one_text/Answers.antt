use Rattle.am_merge.proofs.Keys.{key_order}
use Rattle.am_report.proofs.Differing.{one_list, one_text}
use Rattle.am_report.specs.Less.{less_word}
use Rattle.am_report.proofs.line_laws.lines_are_one_text.Goals as goal

pub returns-clause-list : goal.returns-clause-list
returns-clause-list g c = λ sources compared now differences others are also.
    let keys = key_order g.met.V.Key.Ord.total g.met.V.Version.exact_keys in
    one_list g.V.Version.seen g.V.Key.Ord.cmp keys compared now sources differences others are also

pub returns-clause-text : goal.returns-clause-text
returns-clause-text g c = λ sources compared format found other_found lines others are also.
    let keys = key_order g.met.V.Key.Ord.total g.met.V.Version.exact_keys in
    one_text g.V.Version.seen g.V.Key.Ord.cmp compared format.moment g.V.ReportLine.begins (g.V.ReportLine.told format) (g.V.ReportLine.more format) (less_word g.V.Version.seen g.V.WithUnknown.unknown_of g.V.WithUnknown.known_of) keys sources found other_found lines others are also
