use Rattle.std.proofs.Common.{map, refl, sym}
use Rattle.am_report.specs.Sources.{holding_of}
use Rattle.am_report.proofs.GroupLines.{nothing_held}
use Rattle.am_silence_json.proofs.Bodies.{chain, list_is}
use Rattle.am_report.specs.Json.Groups.{difference_data, groups_data}
use Rattle.am_report.proofs.Grouped.{key_is}
use Rattle.am_report.specs.Less.{less_word}
use Rattle.am_report.proofs.json_lines.difference.add_difference.Goals as goal

pub returns-in_default : goal.returns-in_default
returns-in_default g c = record {
  before = refl;
  tokens = λ key own. absurd (nothing_held g.V.Version.seen _ key c.in_default.ensures own);
}

pub add_groups-requires : goal.add_groups-requires
add_groups-requires g c = sym c.in-Some.ensures

pub returns : goal.returns
unfolding difference_data
returns g c =
    let key = rw c.key.ensures at c.in_ok-add_key.ensures in
    let groups = list_is _ _ _ _ (groups_data g.V.Version.seen g.V.InJson.named (g.V.InJson.value c.args.now) (less_word g.V.Version.seen g.V.WithUnknown.unknown_of g.V.WithUnknown.known_of) (map holding_of c.args.sides.now))
    c.in_ok-add-4.ensures c.in_ok-add_groups.ensures c.in_ok-add-5.ensures in
    let whole = chain c.in_ok-add.ensures (chain c.in_ok-add-2.ensures (chain key (chain c.in_ok-add-3.ensures (chain groups c.in_ok-add-6.ensures)))) in
    record { before = whole.before; tokens = λ k own. rw (← key_is g.V.Version.seen (map holding_of c.args.sides.now) c.in-Some.greatest.now k c.in-Some.ensures own) whole.tokens }
