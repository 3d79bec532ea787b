use Rattle.std.proofs.Common.{take}
use Rattle.am_cluster.proofs.ReadAgain.{IsRowOf}
use Rattle.am_cluster.proofs.lines.row.Given as goal

-- the row so far is that of the lines so far
abbrev pub invariant-loop-line : goal.invariant-loop-line
invariant-loop-line g l = IsRowOf g.V.Version.seen g.V.Message.reads g.L.VersionLine.version_of (take l.line-index l.lines) l.row.items
