use Rattle.std.proofs.Common.{◌≡◌, ◌∙◌, ◌<◌, length, arith}
use Rattle.std.proofs.Math.Seq.{map-set_same}
use Rattle.std.proofs.lemmas.List.Elements.{AllWithin-more_set}
use Rattle.am_member.specs.Sparing.{quiet}
use Rattle.am_member.proofs.deferring.strip_requests.Goals as goal

pub loop-frame-preserved : goal.loop-frame-preserved
loop-frame-preserved c =
    let items = c.loop-frame.frame-items in
    let i = c.loop-frame.frame-index in
    let inside : i < length items = omega (arith, c.loop-frame-test.true, c.loop-frame.auto.frame-items) in record {
      same = map-set_same quiet items i c.strip_request.new.frame c.frame-item.result c.strip_request.ensures.same ∙ c.loop-frame.invariant.same;
      quiet = AllWithin-more_set items i c.strip_request.new.frame inside (λ frame. quiet frame ≡ frame) c.loop-frame.invariant.quiet c.strip_request.ensures.quiet;
    }
