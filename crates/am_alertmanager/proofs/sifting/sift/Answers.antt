use Rattle.std.proofs.Common.{◌++◌, Bool, sym, ap, ◌∙◌, subst, arith}
use Rattle.am_wire.specs.Writing.{delimited}
use Rattle.am_alertmanager.specs.VersionFilters.{Passes, Withholds}
use Rattle.am_alertmanager.proofs.Sifted.{IsSifting, on_err, same_tally, sifting_takes, sifting_skips, tallied_so_far}
use Rattle.am_alertmanager.proofs.sifting.sift.Goals as goal

pub loop-version-preserved-in-Continue-branch-3 : goal.loop-version-preserved-in-Continue-branch-3
loop-version-preserved-in-Continue-branch-3 g c =
    let row = c.loop-version.row.items in
    let test = Passes g.V.Version.seen g.V.Key.Ord.cmp g.V.Candidate.is_hazard c.args.filter.now in
    let notes = Withholds g.V.Version.seen g.V.Key.Ord.cmp g.V.Candidate.is_hazard c.args.filter.now in
    let so_far = subst (λ left. IsSifting test notes g.V.Version.seen c.args.versions left row c.args.tally.now c.loop-version.tally) c.in-Some.ensures.steps c.loop-version.invariant in
    subst (λ bytes. IsSifting test notes g.V.Version.seen c.args.versions c.next.new.self bytes c.args.tally.now (record (c.passes.new.tally) { passed = c.saturating_add-tally.result }))
    (sym (c.in_ok-append_delimited.ensures ∙ ap (λ bytes. row ++ delimited bytes) c.canonical.ensures.content))
    (sifting_takes test notes g.V.Version.seen c.args.versions c.in-Some.version.now c.next.new.self row c.args.tally.now c.loop-version.tally
    (record (c.passes.new.tally) { passed = c.saturating_add-tally.result })
    (subst (λ (b : Bool). test c.in-Some.version.now b) c.if-passes.true c.in_ok-passes.ensures.passes) c.in_ok-passes.ensures.noted
    (λ room. omega (arith, room, c.saturating_add-tally.ensures, c.in_ok-passes.ensures.passed)) so_far)

pub loop-version-preserved : goal.loop-version-preserved
loop-version-preserved g c =
    let row = c.loop-version.row.items in
    let test = Passes g.V.Version.seen g.V.Key.Ord.cmp g.V.Candidate.is_hazard c.args.filter.now in
    let notes = Withholds g.V.Version.seen g.V.Key.Ord.cmp g.V.Candidate.is_hazard c.args.filter.now in
    let so_far = subst (λ left. IsSifting test notes g.V.Version.seen c.args.versions left row c.args.tally.now c.loop-version.tally) c.in-Some.ensures.steps c.loop-version.invariant in
    sifting_skips test notes g.V.Version.seen c.args.versions c.in-Some.version.now c.next.new.self row c.args.tally.now c.loop-version.tally c.passes.new.tally
    (subst (λ (b : Bool). test c.in-Some.version.now b) c.if-passes.false c.in_ok-passes.ensures.passes) c.in_ok-passes.ensures.noted c.in_ok-passes.ensures.passed so_far

pub returns-in_err-passes-clause-tallied : goal.returns-in_err-passes-clause-tallied
returns-in_err-passes-clause-tallied g c =
    let test = Passes g.V.Version.seen g.V.Key.Ord.cmp g.V.Candidate.is_hazard c.args.filter.now in
    let notes = Withholds g.V.Version.seen g.V.Key.Ord.cmp g.V.Candidate.is_hazard c.args.filter.now in
    on_err c.from_residual-in_err-passes.result
    (same_tally test notes c.args.versions c.args.tally.now c.loop-version.tally c.passes.new.tally c.in_err-passes.ensures.unnoted c.in_err-passes.ensures.passed
    (tallied_so_far test notes g.V.Version.seen c.args.versions c.loop-version.version-iterator c.loop-version.row.items c.args.tally.now c.loop-version.tally c.loop-version.invariant))

pub returns-in_err-append_delimited-clause-tallied : goal.returns-in_err-append_delimited-clause-tallied
returns-in_err-append_delimited-clause-tallied g c =
    let row = c.loop-version.row.items in
    let test = Passes g.V.Version.seen g.V.Key.Ord.cmp g.V.Candidate.is_hazard c.args.filter.now in
    let notes = Withholds g.V.Version.seen g.V.Key.Ord.cmp g.V.Candidate.is_hazard c.args.filter.now in
    let so_far = subst (λ left. IsSifting test notes g.V.Version.seen c.args.versions left row c.args.tally.now c.loop-version.tally) c.in-Some.ensures.steps c.loop-version.invariant in
    on_err c.from_residual-in_err-append_delimited.result
    (tallied_so_far test notes g.V.Version.seen c.args.versions c.next.new.self _ c.args.tally.now (record (c.passes.new.tally) { passed = c.saturating_add-tally.result })
    (sifting_takes test notes g.V.Version.seen c.args.versions c.in-Some.version.now c.next.new.self row c.args.tally.now c.loop-version.tally
    (record (c.passes.new.tally) { passed = c.saturating_add-tally.result })
    (subst (λ (b : Bool). test c.in-Some.version.now b) c.if-passes.true c.in_ok-passes.ensures.passes) c.in_ok-passes.ensures.noted
    (λ room. omega (arith, room, c.saturating_add-tally.ensures, c.in_ok-passes.ensures.passed)) so_far))
