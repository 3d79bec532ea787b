use Rattle.std.proofs.Common.{◌≡◌, ℕ, List, drop, map}
use Rattle.std.specs.Prelude.{is_some}
use Rattle.std.specs.List.{list_any}
use Rattle.std.specs.Str.{bytes_eq}
use Rattle.am_schedule.specs.Tables.{value_in}
use Rattle.am_schedule.specs.Lists.{values, pair_in, pairs_in, names_of}
use Rattle.am_schedule.proofs.Pairs.{pairs_behind}
use Rattle.am_schedule.proofs.lists.pairs.Given as goal

abbrev pub invariant-loop-word : goal.invariant-loop-word
invariant-loop-word l = record {
  read : pairs_behind l.pairs.items (values pair_in (map (λ w. w.now) (drop l.word-index l.words))) ≡ pairs_in (map (λ w. w.now) l.words);
  names : (text : List ℕ) → is_some (value_in l.seen text) ≡ list_any (λ t. bytes_eq t text) (names_of l.pairs.items);
}
