use Rattle.std.proofs.Common.{◌≡◌, ◌++◌, map}
use Rattle.am_merge.specs.Maps.{swept}
use Rattle.am_silence_json.specs.Tokens.{row_tokens}
use Rattle.am_report.proofs.json_lines.view.add_live.Given as goal

-- with those of the versions that are left, all are added
abbrev pub invariant-loop-version : goal.invariant-loop-version
invariant-loop-version g l = record {
  before : l.out.before ≡ l.initial.out.before;
  tokens :
      l.out.tokens ++ row_tokens (map (g.V.InJson.value l.now) (swept g.V.Version.seen l.now l.version-iterator))
      ≡ l.initial.out.tokens ++ row_tokens (map (g.V.InJson.value l.now) (swept g.V.Version.seen l.now l.held));
}
