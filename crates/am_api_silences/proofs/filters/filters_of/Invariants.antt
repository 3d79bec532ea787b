use Rattle.std.proofs.Common.{take, map, string_bytes}
use Rattle.am_api_silences.specs.Filters.{AreFilters}
use Rattle.am_api_silences.proofs.filters.filters_of.Given as goal

-- the texts so far are these filters
abbrev pub invariant-loop-text : goal.invariant-loop-text
invariant-loop-text l = AreFilters l.dialect (map string_bytes (take l.text-index l.texts)) l.filters.items
