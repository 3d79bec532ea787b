use Rattle.am_report.proofs.Parts.{part_below}
use Rattle.am_report.proofs.difference_laws.a_part_is_less.Goals as goal

pub returns : goal.returns
returns g c = λ part v w less. part_below part (g.V.Version.seen v) (g.V.Version.seen w) less
