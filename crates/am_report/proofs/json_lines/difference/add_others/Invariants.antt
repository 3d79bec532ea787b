use Rattle.std.proofs.Common.{◌≡◌, map}
use Rattle.am_report.specs.Sources.{holding_of}
use Rattle.am_report.proofs.Ranking.{below_count}
use Rattle.am_report.proofs.GroupLines.{IsWritten}
use Rattle.am_silence_json.specs.Tokens.{data_tokens}
use Rattle.am_report.specs.Json.Groups.{behind_data}
use Rattle.am_report.specs.Less.{less_word}
use Rattle.am_report.proofs.json_lines.difference.add_others.Given as goal

-- with the groups of the versions behind the last, all are added
abbrev pub invariant-loop-version : goal.invariant-loop-version
invariant-loop-version g l = record {
  before : l.out.before ≡ l.fn.out.before;
  written : IsWritten g.V.Version.seen (λ v. data_tokens (behind_data g.V.Version.seen g.V.InJson.named (g.V.InJson.value l.now) (less_word g.V.Version.seen g.V.WithUnknown.unknown_of g.V.WithUnknown.known_of) (map holding_of l.sides) l.greatest v))
      (map holding_of l.sides) l.greatest l.last l.fn.out.tokens l.out.tokens;
}

abbrev pub decreases-loop-version : goal.decreases-loop-version
decreases-loop-version g l = below_count g.V.Version.seen l.last (map holding_of l.sides)
