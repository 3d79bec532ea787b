use Rattle.std.specs.Prelude.{All}
use Rattle.am_merge.specs.Maps.{IsMap}
use Rattle.am_report.specs.Sources.{left_of_all}
use Rattle.am_commands.proofs.Found.{IsCounted}
use Rattle.am_commands.proofs.figures.count_left.Given as goal

-- the differences so far are counted
abbrev pub invariant-loop-found : goal.invariant-loop-found
invariant-loop-found g l = record {
  order : All (λ cursor. IsMap g.V.Version.seen g.V.Key.Ord.cmp cursor.left) l.sides;
  told : IsCounted g.V.Version.seen g.V.Key.Ord.cmp l.compared l.now l.fn.sides l.sides l.found;
}

abbrev pub decreases-loop-found : goal.decreases-loop-found
decreases-loop-found g l = left_of_all l.sides
