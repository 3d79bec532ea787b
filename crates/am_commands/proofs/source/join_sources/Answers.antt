use Rattle.std.proofs.Common.{◌∷◌, [], ◌++◌, arith, get_or, refl}
use Rattle.am_report.specs.Sources.{Source}
use Rattle.am_commands.specs.Reading.{IsRead}
use Rattle.am_commands.proofs.ReadSources.{none_read, read_more, stops_there, all_read}
use Rattle.am_commands.proofs.Folds.{none_folded, folded_more}
use Rattle.am_commands.proofs.source.join_sources.Goals as goal

pub loop-input-init : goal.loop-input-init
loop-input-init g c =
    rw c.new-all.ensures (
      [],
      none_read (IsRead g.V.Version.seen g.V.Key.Ord.cmp g.S.Source.gives) c.args.inputs.now,
      none_folded g.V.Version.seen g.V.Key.Ord.cmp,
      refl,
    )

pub loop-input-preserved : goal.loop-input-preserved
loop-input-preserved g c =
    let (sources, read, folded, number) = c.loop-input.invariant in
    let source : Source g.row.V.Denot = record { name = (get_or c.loop-input.inputs c.loop-input.input-index c.input-item.result).name.now; held = c.in-Ok.held } in (
      sources ++ source ∷ [],
      read_more (IsRead g.V.Version.seen g.V.Key.Ord.cmp g.S.Source.gives) c.args.inputs.now c.loop-input.inputs c.loop-input.input-index sources
          c.input-item.result _ (omega (arith, c.loop-input-test.true, read.many)) c.input-item.is read source
          (record { name = refl; order = c.in-Ok.ensures.order; held = c.in-Ok.ensures.given }),
      folded_more g.V.Version.seen g.V.Key.Ord.cmp sources c.loop-input.all _ source folded c.in_ok-all-in-Ok.ensures.order c.in_ok-all-in-Ok.ensures.joined,
      omega (arith, number),
    )

pub returns-in-Err-clause-stopped : goal.returns-in-Err-clause-stopped
returns-in-Err-clause-stopped g c =
    let (sources, read, folded, number) = c.loop-input.invariant in
    let there = stops_there (IsRead g.V.Version.seen g.V.Key.Ord.cmp g.S.Source.gives) c.args.inputs.now c.loop-input.inputs c.loop-input.input-index sources
    c.input-item.result c.input-item.result (omega (arith, c.loop-input-test.true, read.many)) c.input-item.is read
    (λ old new. g.S.Source.stops old.source c.in-Err.fault) c.loop-input.number (omega (arith, number, read.few))
    c.in-Err.ensures.stopped in
    record { inside = there.0; before = (sources, there.1); here = there.2 }

pub returns-clause-joined : goal.returns-clause-joined
returns-clause-joined g c =
    let (sources, read, folded, number) = c.loop-input.invariant in (
      sources,
      all_read (IsRead g.V.Version.seen g.V.Key.Ord.cmp g.S.Source.gives) c.args.inputs.now c.loop-input.inputs c.loop-input.input-index sources
          (omega (arith, c.loop-input-test.false, read.many)) read,
      folded,
    )
