use Rattle.std.proofs.Common.{◌≡◌, [], rules}
use Rattle.std.proofs.lemmas.Result.{err_from_is_err_and}
use Rattle.am_snapshot.proofs.Passing.{passes_all, passes_then, stops_first, stops_later}
use Rattle.am_snapshot.proofs.counting_writer.CountingWriter.send.Goals as goal

pub returns-in_err-flush-clause-stopped : goal.returns-in_err-flush-clause-stopped
returns-in_err-flush-clause-stopped g c =
    let p = err_from_is_err_and c.from_residual.result c.from_residual.ensures.1 in
    let same = c.gather.ensures.refused c.if-gather.false in
    let stop = rw (same, c.gather.ensures.written) at c.in_err-flush.ensures.stopped in
    rw (p.1, p.2) (stops_first _ _ _ _ _ _ stop)

pub returns-in_err-self-clause-stopped : goal.returns-in_err-self-clause-stopped
returns-in_err-self-clause-stopped g c =
    let p = err_from_is_err_and c.from_residual-in_err-self.result c.from_residual-in_err-self.ensures.1 in
    let same = c.gather.ensures.refused c.if-gather.false in
    let passed = rw (same, c.gather.ensures.written) at c.in_ok-flush.ensures.passed in
    let stop = rw (c.gather-2.ensures.written) at c.in_err-self.ensures.stopped in
    rw (p.1, p.2) (stops_later _ _ _ _ _ _ _ _ _ _ passed stop)

pub returns-in_ok-self-clause-passed : goal.returns-in_ok-self-clause-passed
returns-in_ok-self-clause-passed g c =
    let same = c.gather.ensures.refused c.if-gather.false in
    let none : c.gather-2.new.self.gathered.items ≡ [] = search rules in
    let passed = rw (same, c.gather.ensures.written) at c.in_ok-flush.ensures.passed in
    let sent = passes_all _ _ [] _ _ _ c.in_ok-self.ensures.all (rw (← c.gather-2.ensures.written) c.in_ok-self.ensures.count) in
    rw none (passes_then _ _ _ _ _ _ _ _ _ _ _ passed sent)
