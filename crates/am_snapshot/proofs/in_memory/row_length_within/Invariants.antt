use Rattle.std.proofs.Common.{◌≡◌, ◌≤◌, ◌+◌, length}
use Rattle.std.specs.List.{All}
use Rattle.am_merge.specs.Maps.{IsMap}
use Rattle.am_snapshot.specs.Encodings.{row_encoding}
use Rattle.am_snapshot.proofs.Fits.{IsShort}
use Rattle.am_snapshot.proofs.in_memory.row_length_within.Given as goal

abbrev pub invariant-loop-version : goal.invariant-loop-version
invariant-loop-version g l =
    record {
      count : l.total + length (row_encoding g.V.Version.seen l.version-iterator) ≡ length (row_encoding g.V.Version.seen l.held);
      few : l.total ≤ l.limit;
      order : IsMap g.V.Version.seen g.V.Key.Ord.cmp l.held;
      values : All g.V.Version.is_value l.version-iterator → All g.V.Version.is_value l.held;
      short : All (IsShort g.V.Version.seen) l.version-iterator → All (IsShort g.V.Version.seen) l.held;
      long : All (IsShort g.V.Version.seen) l.held → All (IsShort g.V.Version.seen) l.version-iterator;
    }
