use Rattle.am_report.proofs.GroupLines.{others_less}
use Rattle.am_report.proofs.Whole.{are_ranked}
use Rattle.am_report.proofs.line_laws.lines_are_of_ranked_versions.Goals as goal

pub returns-clause-ranked : goal.returns-clause-ranked
returns-clause-ranked g c = are_ranked g.V.Version.seen

pub returns-clause-less : goal.returns-clause-less
returns-clause-less g c = others_less g.V.Version.seen
