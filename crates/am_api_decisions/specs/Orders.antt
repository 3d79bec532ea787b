-- The order of labels.
use Rattle.std.specs.Prelude.{List, map}
use Rattle.std.specs.List.Sorted.{IsStrictlySortedBy}
use Rattle.std.specs.Ordering.{nat_cmp}
use Rattle.std.specs.Cmp.Lexicographic.{slice_cmp}
use Rattle.am_matcher.specs.declared.labels.Label.{Label}

-- each name is below those after it, byte by byte
abbrev pub AreInOrder : List Label → Type 0
AreInOrder labels = IsStrictlySortedBy (slice_cmp nat_cmp) (map (λ label. label.name) labels)
