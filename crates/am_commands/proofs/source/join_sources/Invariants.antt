use Rattle.std.proofs.Common.{◌≡◌, List}
use Rattle.am_report.specs.Sources.{Source}
use Rattle.am_commands.specs.Reading.{IsRead}
use Rattle.am_commands.specs.Folding.{IsFoldOf}
use Rattle.am_commands.proofs.ReadSources.{AreReadTo}
use Rattle.am_commands.proofs.source.join_sources.Given as goal

-- the sources so far are read and joined, and the others are as they were
abbrev pub invariant-loop-input : goal.invariant-loop-input
invariant-loop-input g l =
    (sources : List (Source g.row.V.Denot))
    × AreReadTo (IsRead g.V.Version.seen g.V.Key.Ord.cmp g.S.Source.gives) l.initial.inputs l.inputs l.input-index sources
    × IsFoldOf g.V.Version.seen g.V.Key.Ord.cmp sources l.all
    × (l.number ≡ l.input-index)
