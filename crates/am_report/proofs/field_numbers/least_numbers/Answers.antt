use Rattle.std.proofs.Common.{◌≢◌, length, arith}
use Rattle.am_report.proofs.FieldNumbers.{first_more}
use Rattle.am_report.proofs.field_numbers.least_numbers.Goals as goal

pub loop-number-preserved : goal.loop-number-preserved
loop-number-preserved c =
    let other : length c.loop-number.least.items ≢ c.args.most = λ same. c.if-len-most.false (omega (arith, c.len.ensures, c.loop-number.least.ok.0, same)) in
    let more = first_more c.args.most c.loop-number.least.items c.loop-number.number-iterator c.next.new.self c.push.new.self.items _ c.in-Some.number.now
    c.loop-number.invariant.within other c.in-Some.ensures.steps c.loop-number.invariant.whole c.in_ok-push.ensures.items in
    record { within = more.0; whole = more.1 }
