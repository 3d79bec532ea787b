use Rattle.std.proofs.Common.{rules, ◌<◌, ◌^◌}
use Rattle.am_wire.proofs.Passings.{one_more}
use Rattle.am_wire.proofs.canonical.are_packed.Goals as goal

pub loop-preserved : goal.loop-preserved
loop-preserved c =
    let low : c.in-Some._value < 2 ^ 64 = search rules in
    one_more c.args.part.now c.in-Some._value c.loop.reader c.varint.new.self c.loop.invariant low c.in-Some.ensures
