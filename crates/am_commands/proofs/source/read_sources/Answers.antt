use Rattle.std.proofs.Common.{arith}
use Rattle.am_commands.specs.Reading.{IsRead}
use Rattle.am_commands.proofs.ReadSources.{none_read, read_more, stops_there, all_read}
use Rattle.am_commands.proofs.source.read_sources.Goals as goal

pub loop-input-init : goal.loop-input-init
loop-input-init g c =
    rw c.in_ok-replicas.ensures.items
    (none_read (IsRead g.V.Version.seen g.V.Key.Ord.cmp g.S.Source.gives) c.args.inputs.now)

pub loop-input-preserved : goal.loop-input-preserved
loop-input-preserved g c =
    rw c.in_ok-add-in-Ok.ensures
    (read_more (IsRead g.V.Version.seen g.V.Key.Ord.cmp g.S.Source.gives) c.args.inputs.now c.loop-input.inputs c.loop-input.input-index c.loop-input.replicas.items
    c.input-item.result c.read_one.new.input (omega (arith, c.loop-input-test.true, c.loop-input.invariant.many)) c.input-item.is c.loop-input.invariant c.in-Ok.replica c.in-Ok.ensures.read)

pub returns-in-Err-clause-stopped : goal.returns-in-Err-clause-stopped
returns-in-Err-clause-stopped g c =
    let there = stops_there (IsRead g.V.Version.seen g.V.Key.Ord.cmp g.S.Source.gives) c.args.inputs.now c.loop-input.inputs c.loop-input.input-index c.loop-input.replicas.items
    c.input-item.result c.read_one.new.input (omega (arith, c.loop-input-test.true, c.loop-input.invariant.many)) c.input-item.is c.loop-input.invariant
    (λ old new. g.S.Source.stops old.source c.in-Err.fault) c.len.result (omega (arith, c.len.ensures, c.loop-input.replicas.ok.0))
    c.in-Err.ensures.fault in
    record { inside = there.0; before = (c.loop-input.replicas.items, there.1); here = there.2 }

pub returns-clause-read : goal.returns-clause-read
returns-clause-read g c =
    all_read (IsRead g.V.Version.seen g.V.Key.Ord.cmp g.S.Source.gives) c.args.inputs.now c.loop-input.inputs c.loop-input.input-index c.loop-input.replicas.items
    (omega (arith, c.loop-input-test.false, c.loop-input.invariant.many)) c.loop-input.invariant
