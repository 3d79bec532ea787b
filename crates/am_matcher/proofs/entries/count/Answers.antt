use Rattle.std.proofs.Common.{arith}
use Rattle.am_matcher.proofs.Keepings.{count_more, counted_all}
use Rattle.am_matcher.proofs.entries.count.Goals as goal

pub overflow_add-bytes : goal.overflow_add-bytes
overflow_add-bytes c =
    let more = count_more c.args.entries.now c.loop-entry.entry-index c.entry-item.result c.loop-entry.bytes c.size-bytes.result c.loop-entry-test.true c.entry-item.is c.requires c.size-bytes.ensures c.loop-entry.invariant in
    omega (arith, more.fits)

pub loop-entry-preserved : goal.loop-entry-preserved
loop-entry-preserved c =
    (count_more c.args.entries.now c.loop-entry.entry-index c.entry-item.result c.loop-entry.bytes c.size-bytes.result c.loop-entry-test.true c.entry-item.is c.requires c.size-bytes.ensures c.loop-entry.invariant).is

pub returns : goal.returns
returns c = counted_all c.args.entries.now c.loop-entry.entry-index c.loop-entry.bytes c.loop-entry-test.false c.loop-entry.auto.entry-index-end c.loop-entry.invariant
