use Rattle.std.proofs.Common.{◌≡◌, ◌++◌}
use Rattle.am_instance.specs.Replies.{silences_shown}
use Rattle.am_instance.proofs.views.silences_shown.Given as goal

abbrev pub invariant-loop-version : goal.invariant-loop-version
invariant-loop-version l =
    record {
      rows : l.shown.items ++ silences_shown l.now l.fn.filters.items l.version-iterator ≡ silences_shown l.now l.fn.filters.items l.silences;
      same : l.filters.items ≡ l.fn.filters.items;
    }
