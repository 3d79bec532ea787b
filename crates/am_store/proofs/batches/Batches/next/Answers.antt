use Rattle.std.proofs.Common.{arith}
use Rattle.am_store.proofs.ReadingLemmas.{next_is, last_is}
use Rattle.am_store.proofs.batches.Batches.next.Goals as goal

pub returns-in-Whole-clause-batch : goal.returns-in-Whole-clause-batch
returns-in-Whole-clause-batch g c =
    let (bytes, read, found) = rw c.in-Whole.is at c.in_ok-batch.ensures in
    next_is _ _ bytes _ read found

pub returns-in_ok-self-in-Part-clause-last : goal.returns-in_ok-self-in-Part-clause-last
returns-in_ok-self-in-Part-clause-last g c = λ _.
    let (bytes, read, found) = rw c.in-Part.is at c.in_ok-batch.ensures in
    let (more, skipped, long, end) = c.in_ok-self-in-Part.ensures in
    last_is _ _ _ bytes more _ read found.1 skipped (omega (arith, long, found.0)) end
