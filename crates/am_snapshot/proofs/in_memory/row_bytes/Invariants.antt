use Rattle.std.proofs.Common.{◌≡◌, ◌++◌}
use Rattle.am_snapshot.specs.Encodings.{row_encoding}
use Rattle.am_snapshot.proofs.in_memory.row_bytes.Given as goal

abbrev pub invariant-loop-version : goal.invariant-loop-version
invariant-loop-version g l = l.bytes.items ++ row_encoding g.V.Version.seen l.version-iterator ≡ row_encoding g.V.Version.seen l.held
