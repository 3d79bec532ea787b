use Rattle.std.proofs.Common.{◌≡◌, ◌++◌, ℕ, List, map}
use Rattle.am_wire.specs.Fields.{rows_of}
use Rattle.am_wire.specs.Inputs.{sound}
use Rattle.am_wire.specs.declared.unknown.Unknown.TheVariants.{Keep}
use Rattle.am_commands.specs.Sending.{IsSending}
use Rattle.am_commands.proofs.mending.Mending.add_row.Given as goal

-- the messages so far are added, and the others are to come
abbrev pub invariant-loop-text : goal.invariant-loop-text
invariant-loop-text g l =
    (messages : List (List ℕ)) × (rows_of l.fn.row ≡ map sound messages ++ l.text-iterator)
    × ((before : List (List ℕ)) → IsSending g.V.Version.seen g.V.Key.Ord.cmp (g.V.Message.reads Keep) g.V.Candidate.is_hazard l.self.all l.self.moment l.held before l.fn.sent.rows.items l.fn.sent.versions
    → IsSending g.V.Version.seen g.V.Key.Ord.cmp (g.V.Message.reads Keep) g.V.Candidate.is_hazard l.self.all l.self.moment l.held (before ++ messages) l.sent.rows.items l.sent.versions)
