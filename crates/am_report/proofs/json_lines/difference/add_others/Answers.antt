use Rattle.std.proofs.Common.{map, drop, refl, sym, ◌∙◌}
use Rattle.am_report.specs.Sources.{holding_of}
use Rattle.am_report.proofs.Ranking.{falls}
use Rattle.am_report.specs.Ranked.{ranked}
use Rattle.am_report.proofs.GroupLines.{next_under, written_none, written_more, written_all}
use Rattle.am_report.specs.Json.Groups.{behind_data}
use Rattle.am_report.proofs.Adding.{row_of}
use Rattle.am_report.specs.Less.{less_word}
use Rattle.am_report.proofs.json_lines.difference.add_others.Goals as goal

pub add_behind-requires : goal.add_behind-requires
add_behind-requires g c =
    next_under g.V.Version.seen (map holding_of c.args.sides.now) c.args.greatest.now c.loop-version.last.now c.in-Some.version.now
    c.loop-version.invariant.written.at c.in-Some.ensures

pub loop-version-init : goal.loop-version-init
loop-version-init g c = record { before = refl; written = written_none g.V.Version.seen _ _ _ _ c.requires }

pub loop-version-preserved : goal.loop-version-preserved
loop-version-preserved g c = record {
  before = c.in_ok-add_behind.ensures.before ∙ c.loop-version.invariant.before;
  written = written_more g.V.Version.seen _ _ _ _ _ _ _ _ c.loop-version.invariant.written c.in-Some.ensures c.in_ok-add_behind.ensures.tokens;
}

pub loop-version-smaller : goal.loop-version-smaller
loop-version-smaller g c = falls g.V.Version.seen c.in-Some.version.now c.loop-version.last.now (map holding_of c.args.sides.now) (sym c.in-Some.ensures)

pub returns : goal.returns
returns g c =
    row_of (behind_data g.V.Version.seen g.V.InJson.named (g.V.InJson.value c.args.now) (less_word g.V.Version.seen g.V.WithUnknown.unknown_of g.V.WithUnknown.known_of) (map holding_of c.args.sides.now) c.args.greatest.now)
    (drop 1 (ranked g.V.Version.seen (map holding_of c.args.sides.now))) c.loop-version.invariant.before
    (written_all g.V.Version.seen _ _ _ _ _ _ c.loop-version.invariant.written c.in_default.ensures)
