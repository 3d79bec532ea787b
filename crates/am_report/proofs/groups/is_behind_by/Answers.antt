use Rattle.std.proofs.Common.{rules}
use Rattle.am_report.specs.declared.diff_field.DiffField.TheVariants.{Expiry, Bytes}
use Rattle.am_report.proofs.Parts.{less_as}
use Rattle.am_report.proofs.groups.is_behind_by.Goals as goal

pub returns-then-lt-2-clause-less : goal.returns-then-lt-2-clause-less
returns-then-lt-2-clause-less g c = less_as Expiry (g.V.Version.seen c.args.version.now) (g.V.Version.seen c.args.greatest.now) c.requires (search rules)

pub returns-else-lt-2-clause-less : goal.returns-else-lt-2-clause-less
returns-else-lt-2-clause-less g c = less_as Bytes (g.V.Version.seen c.args.version.now) (g.V.Version.seen c.args.greatest.now) c.requires (search rules)
