use Rattle.std.proofs.Common.{◌≡◌, ◌+◌, ◌≤◌, length}
use Rattle.am_merge.specs.Maps.{swept}
use Rattle.am_report.proofs.view.live_count.Given as goal

abbrev pub invariant-loop-version : goal.invariant-loop-version
invariant-loop-version g l =
    record {
      room : length l.version-iterator ≤ l.count;
      live : l.count + length (swept g.V.Version.seen l.now l.version-iterator) ≡ length (swept g.V.Version.seen l.now l.held) + length l.version-iterator;
    }
