use Rattle.std.proofs.Common.{All, take}
use Rattle.am_version_order.proofs.values.versions_are_values.Given as goal

abbrev pub invariant-loop-version : goal.invariant-loop-version
invariant-loop-version g l = All g.V.Version.is_value (take l.version-index l.versions)
