use Rattle.am_commands.specs.Reading.{IsRead}
use Rattle.am_commands.proofs.ReadSources.{AreReadTo}
use Rattle.am_commands.proofs.source.read_sources.Given as goal

-- the sources so far are read, and the others are as they were
abbrev pub invariant-loop-input : goal.invariant-loop-input
invariant-loop-input g l =
    AreReadTo (IsRead g.V.Version.seen g.V.Key.Ord.cmp g.S.Source.gives) l.initial.inputs l.inputs l.input-index l.replicas.items
