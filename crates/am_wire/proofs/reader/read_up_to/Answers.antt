use Rattle.std.proofs.Common.{◌≡◌, length, take, ap, ◌∙◌, rules, arith}
use Rattle.std.proofs.lemmas.List.{with_items_is, places, length-take-le}
use Rattle.am_wire.proofs.ReaderLemmas.{more_read, none_read}
use Rattle.am_wire.proofs.reader.read_up_to.Goals as goal

pub loop-len-preserved : goal.loop-len-preserved
loop-len-preserved g c =
    let same = with_items_is c.make_room.new.bytes c.read_at.new.room (search (rules, places)) in
    let front : take c.loop-len.len c.read_at.new.room ≡ take c.loop-len.len c.loop-len.bytes.items = c.in-Ok.ensures.front ∙ ap (take c.loop-len.len) c.as_mut_slice.ensures.value ∙ c.in_ok-make_room.ensures.front in
    let long : length c.read_at.new.room ≡ c.make_room.new.bytes.len = search (rules, places) in
    rw same (record {
      held = c.in-Ok.ensures.fits;
      most = omega (arith, long, c.in_ok-make_room.ensures.most);
      read = more_read _ _ _ _ _ _ _ c.loop-len.invariant.read front c.in-Ok.ensures.ok;
    })

pub returns-in-Err-clause-fault : goal.returns-in-Err-clause-fault
returns-in-Err-clause-fault g c =
    let n = length-take-le c.loop-len.len c.loop-len.bytes.items c.loop-len.invariant.held in
    (take c.loop-len.len c.loop-len.bytes.items, none_read _ _ _ _ c.loop-len.invariant.read c.in-Err.ensures.err, (omega (arith, n, c.loop-len-test.true), omega (arith, n)))
