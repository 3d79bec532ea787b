use Rattle.std.proofs.Common.{◌≡◌, ◌-◌, ◌≤◌}
use Rattle.am_api_silences.proofs.list_filter.ListFilter.resume.Given as goal

-- one silence was judged at first, and one in each turn that is over
abbrev pub invariant-loop-count : goal.invariant-loop-count
invariant-loop-count l =
    record {
      same : l.self.rows ≡ l.fn.self.rows;
      left : l.self.left ≡ l.fn.self.left - 1 - l._count;
      within : l._count ≤ l.most - 1;
    }
