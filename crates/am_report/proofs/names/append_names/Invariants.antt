use Rattle.std.proofs.Common.{take, string_bytes}
use Rattle.std.specs.Option.{option_copied}
use Rattle.am_report.proofs.Naming.{AreNamed}
use Rattle.am_report.proofs.names.append_names.Given as goal

-- the names so far are appended
abbrev pub invariant-loop-source : goal.invariant-loop-source
invariant-loop-source g l =
    AreNamed g.V.Version.seen (option_copied l.here) (take l.source-index l.sides) (string_bytes l.fn.out) (string_bytes l.out) l.is_first
