use Rattle.std.proofs.Common.{take}
use Rattle.std.specs.Prelude.{flat_map}
use Rattle.am_wire.specs.Fields.{rows_of}
use Rattle.am_wire.specs.declared.unknown.Unknown.TheVariants.{Keep}
use Rattle.am_commands.specs.Sending.{IsSendingOf}
use Rattle.am_commands.proofs.mending.Mending.to_send.Given as goal

-- the messages of the rows so far are added
abbrev pub invariant-loop-row : goal.invariant-loop-row
invariant-loop-row g l =
    IsSendingOf g.V.Version.seen g.V.Key.Ord.cmp (g.V.Message.reads Keep) g.V.Candidate.is_hazard l.self.all l.self.moment l.held
    (flat_map (λ row. rows_of row.items) (take l.row-index l.row-items)) l.sent.rows.items l.sent.versions
