use Rattle.std.proofs.Common.{◌≡◌, ◌-◌}
use Rattle.am_api_silences.proofs.list_filter.ListFilter.finish.Given as goal

-- one silence was judged in each turn that is over
abbrev pub invariant-loop-count : goal.invariant-loop-count
invariant-loop-count l =
    record {
      same : l.self.rows ≡ l.fn.self.rows;
      left : l.self.left ≡ l.fn.self.left - l._count;
    }
