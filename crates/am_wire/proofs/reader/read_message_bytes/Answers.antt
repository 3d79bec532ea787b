use Rattle.std.proofs.Common.{◌≡◌, refl, arith, length, length-append}
use Rattle.std.proofs.lemmas.Result.{err_from_is_err_and}
use Rattle.am_wire.proofs.ReaderLemmas.{row_whole, stops_in_message, stops_above, stops_before_end}
use Rattle.am_wire.proofs.reader.read_message_bytes.Goals as goal

pub returns-in_err-read_up_to : goal.returns-in_err-read_up_to
returns-in_err-read_up_to g c =
    let p = err_from_is_err_and c.from_residual.result c.from_residual.ensures.1 in
    let (more, read, stop) = c.in_err-read_up_to.ensures.fault in
    (more, read, λ text h. rw (p.1, p.2) (stops_in_message _ _ _ text h _ _ more _ _ (omega (arith, c.min.ensures)) (omega (arith, c.min.ensures, c.requires)) stop))

pub returns-then-len-room : goal.returns-then-len-room
returns-then-len-room g c =
    let n = c.read_up_to.new.bytes.ok.0 in
    let at_most = c.in_ok-read_up_to.ensures.size in
    (_, c.in_ok-read_up_to.ensures.whole, λ text h. stops_above _ _ _ text h _ _ (omega (arith, n, at_most, c.min.ensures)) (omega (arith, n, c.len.ensures, c.if-len-room.true, c.requires)) c.requires)

pub returns-then-len-size : goal.returns-then-len-size
returns-then-len-size g c =
    let n = c.read_up_to.new.bytes.ok.0 in
    let at_most = c.in_ok-read_up_to.ensures.size in
    (_, c.in_ok-read_up_to.ensures.whole, λ text h. stops_before_end _ _ _ text h _ _ _ (omega (arith, n)) (omega (arith, n, at_most, c.min.ensures)) (c.in_ok-read_up_to.ensures.end (omega (arith, at_most, c.min.ensures))))

pub returns : goal.returns
returns g c =
    let n = c.read_up_to.new.bytes.ok.0 in
    let at_most = c.in_ok-read_up_to.ensures.size in
    let whole : length c.read_up_to.new.bytes.items ≡ c.args.size = omega (arith, n, at_most, c.min.ensures) in
    (_, c.in_ok-read_up_to.ensures.whole, λ text h. (refl, whole, row_whole _ _ _ text h _ whole, omega (arith, n, at_most, c.min.ensures, h.place, length-append text c.read_up_to.new.bytes.items)))
