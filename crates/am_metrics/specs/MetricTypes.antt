-- The names of kinds.
use Rattle.std.specs.Prelude.{ℕ, List, codes}
use Rattle.am_metrics.specs.declared.family.MetricType.{MetricType}
use Rattle.am_metrics.specs.declared.family.MetricType.TheVariants.{Counter, Gauge, Histogram}

-- the word for a kind in a TYPE line
abbrev pub kind_text : MetricType → List ℕ
kind_text Counter = codes "counter"
kind_text Gauge = codes "gauge"
kind_text Histogram = codes "histogram"
