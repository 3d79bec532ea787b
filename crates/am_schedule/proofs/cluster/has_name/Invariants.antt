use Rattle.std.proofs.Common.{◌≡◌, drop}
use Rattle.std.specs.List.{list_any}
use Rattle.std.specs.Str.{bytes_eq}
use Rattle.am_schedule.proofs.cluster.has_name.Given as goal

abbrev pub invariant-loop-name : goal.invariant-loop-name
invariant-loop-name l = list_any (λ t. bytes_eq t l.word) (drop l.name-index l.names) ≡ list_any (λ t. bytes_eq t l.word) l.names
