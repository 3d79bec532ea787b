use Rattle.std.proofs.Common.{◌≡◌, ◌++◌, length, take, rules, arith, length-append}
use Rattle.std.proofs.lemmas.List.{places}
use Rattle.std.proofs.KnownBytes.{Consumes-trans}
use Rattle.am_store.proofs.batches.skip_rest.Goals as goal

pub loop-behind-preserved : goal.loop-behind-preserved
loop-behind-preserved g c =
    let (bytes, read, long) = c.loop-behind.invariant in
    let more = take c.in_ok-more.more c.read_some.new.room in
    let n : length more ≡ c.in_ok-more.more = search (rules, places) in
    (bytes ++ more, Consumes-trans _ _ _ bytes more read c.in_ok-more.ensures.read, omega (arith, long, n, length-append bytes more))
