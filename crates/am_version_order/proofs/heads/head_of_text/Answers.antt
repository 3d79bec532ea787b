use Rattle.std.proofs.Common.{arith}
use Rattle.am_version_order.specs.Heads.{weights}
use Rattle.am_version_order.proofs.Weights.{weighed_more, weighed_last, weighed_end}
use Rattle.am_version_order.proofs.heads.head_of_text.Goals as goal

pub returns-then-bytes-place : goal.returns-then-bytes-place
returns-then-bytes-place c =
    let low = c.min-place-end.ensures in
    let within = c.loop-place-test.true in
    let last = weighed_last weights c.args.bytes.now c.loop-place.place (omega arith) (omega arith) c.if-bytes-place.true in
    let so_far = c.loop-place.invariant in
    omega arith

pub loop-place-preserved : goal.loop-place-preserved
loop-place-preserved c =
    let low = c.min-place-end.ensures in
    let within = c.loop-place-test.true in
    let byte = c.type_inv.bytes c.loop-place.place in
    let other = c.if-bytes-place.false in
    let more = weighed_more weights c.args.bytes.now c.loop-place.place (omega arith) (omega arith) (omega arith) in
    let so_far = c.loop-place.invariant in
    omega arith

pub returns : goal.returns
returns c =
    let low = c.min-place-end.ensures in
    let past = c.loop-place-test.false in
    let none = weighed_end weights c.args.bytes.now c.loop-place.place (omega arith) in
    let so_far = c.loop-place.invariant in
    omega arith
