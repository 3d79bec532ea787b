use Rattle.std.proofs.Common.{◌≡◌}
use Rattle.std.specs.Prelude.{All}
use Rattle.am_merge.specs.Maps.{IsMap}
use Rattle.am_report.specs.Sources.{left_of_all}
use Rattle.am_report.proofs.Differing.{AreTold}
use Rattle.am_silence_json.specs.Tokens.{data_tokens}
use Rattle.am_report.specs.Json.Groups.{difference_data}
use Rattle.am_report.specs.Less.{less_word}
use Rattle.am_report.proofs.json_lines.writing.add_left.Given as goal

-- the differences so far are added
abbrev pub invariant-loop-alloc : goal.invariant-loop-alloc
invariant-loop-alloc g l = record {
  order : All (λ cursor. IsMap g.V.Version.seen g.V.Key.Ord.cmp cursor.left) l.sides;
  before : l.out.before ≡ l.fn.out.before;
  told : AreTold g.V.Version.seen g.V.Key.Ord.cmp l.compared l.now (λ d. data_tokens (difference_data g.V.Version.seen g.V.InJson.named (g.V.InJson.value l.now) (less_word g.V.Version.seen g.V.WithUnknown.unknown_of g.V.WithUnknown.known_of) g.V.InJson.key_data d)) l.fn.sides l.sides l.fn.out.tokens l.out.tokens l.found;
}

abbrev pub decreases-loop-alloc : goal.decreases-loop-alloc
decreases-loop-alloc g l = left_of_all l.sides
