use Rattle.std.proofs.Common.{◌≡◌, ◌||◌}
use Rattle.am_report.specs.Later.{has_later}
use Rattle.am_report.proofs.later.has_later.Given as goal

-- it is among those before, or among those that are left
abbrev pub invariant-loop-version : goal.invariant-loop-version
invariant-loop-version g l = (l.found || has_later g.V.Version.seen l.now l.version-iterator) ≡ has_later g.V.Version.seen l.now l.held
