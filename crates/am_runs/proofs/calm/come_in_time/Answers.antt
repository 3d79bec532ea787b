use Rattle.std.proofs.Common.{◌≡◌, List, true, map, sym, ◌∙◌}
use Rattle.std.proofs.lemmas.Bool.{false≢true}
use Rattle.am_runs.specs.Records.{step_of}
use Rattle.am_runs.specs.Tests.{comes_in_time}
use Rattle.am_runs.proofs.Cuts.{each_nil, each_take_more, not_each}
use Rattle.am_runs.proofs.calm.come_in_time.Goals as goal

pub loop-place-init : goal.loop-place-init
loop-place-init g c = each_nil (λ done v. comes_in_time g.V.Version.seen g.V.Key.Ord.cmp c.args.member (map step_of c.args.before.now) c.args.now done v ≡ true)

pub returns-then-not-comes_in_time : goal.returns-then-not-comes_in_time
returns-then-not-comes_in_time g c =
    let P = λ (done : List g.row.V.Denot) (v : g.row.V.Denot). comes_in_time g.V.Version.seen g.V.Key.Ord.cmp c.args.member (map step_of c.args.before.now) c.args.now done v ≡ true in
    (λ t. absurd (false≢true t), λ each. absurd (not_each P c.args.versions.now c.loop-place.place c.index-versions-place.result c.loop-place-test.true c.index-versions-place.is (λ e. false≢true (sym c.if-not-comes_in_time.true ∙ c.comes_in_time.ensures ∙ e)) each))

pub loop-place-preserved : goal.loop-place-preserved
loop-place-preserved g c =
    let P = λ (done : List g.row.V.Denot) (v : g.row.V.Denot). comes_in_time g.V.Version.seen g.V.Key.Ord.cmp c.args.member (map step_of c.args.before.now) c.args.now done v ≡ true in
    each_take_more P c.args.versions.now c.loop-place.place c.index-versions-place.result c.loop-place-test.true c.index-versions-place.is c.loop-place.invariant (sym c.comes_in_time.ensures ∙ c.if-not-comes_in_time.false)
