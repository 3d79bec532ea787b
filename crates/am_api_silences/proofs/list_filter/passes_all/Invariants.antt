use Rattle.std.proofs.Common.{◌≡◌, drop}
use Rattle.std.specs.List.{list_all}
use Rattle.am_matcher.specs.Matching.{passes}
use Rattle.am_api_silences.proofs.list_filter.passes_all.Given as goal

-- the filters that are left decide
abbrev pub invariant-loop-filter : goal.invariant-loop-filter
invariant-loop-filter l =
    record {
      same : l.filter-items ≡ l.fn.filters.items;
      left : list_all (λ f. passes f l.version.silence) (drop l.filter-index l.fn.filters.items) ≡ list_all (λ f. passes f l.version.silence) l.fn.filters.items;
    }
