use Rattle.std.proofs.Common.{Ok, Err, length-drop, arith, rules}
use Rattle.am_wire.proofs.Items.{rest_is}
use Rattle.am_gossip.proofs.Fronts.{front_within}
use Rattle.am_gossip.proofs.Streaming.{stream_waits, stream_fault, one_frame_more, no_frame_more}
use Rattle.am_gossip.proofs.reading.read_frames.Goals as goal

pub slice_bounds-rest-count : goal.slice_bounds-rest-count
slice_bounds-rest-count c = let w = front_within _ _ _ (rw c.in-Frame.is at c.in_ok-frame.ensures.read) in w.1

pub slice_bounds-rest-start : goal.slice_bounds-rest-start
slice_bounds-rest-start c = let le = slice_bounds-rest-count c in search rules

pub loop-frame-smaller : goal.loop-frame-smaller
loop-frame-smaller c =
    let w = front_within _ _ _ (rw c.in-Frame.is at c.in_ok-frame.ensures.read) in
    rw (rest_is c.in-Frame.len c.loop-frame.rest.now) (omega (arith, w.0, w.1, length-drop c.in-Frame.len c.loop-frame.rest.now))

pub loop-frame-preserved : goal.loop-frame-preserved
loop-frame-preserved c =
    let front = rw c.in-Frame.is at c.in_ok-frame.ensures.read in
    rw (rest_is c.in-Frame.len c.loop-frame.rest.now, c.in_ok-push-in-Frame.ensures.items) (one_frame_more _ _ _ _ c.loop-frame.invariant _ _ front)

pub returns-in-Waits-clause-frames : goal.returns-in-Waits-clause-frames
returns-in-Waits-clause-frames c =
    let waiting = rw c.in-Waits.is at c.in_ok-frame.ensures.read in
    let all = no_frame_more _ _ _ _ c.loop-frame.invariant (Ok c.loop-frame.rest.now) (stream_waits _ waiting.unfinished) in
    all.0

pub returns-in-Waits-clause-end : goal.returns-in-Waits-clause-end
returns-in-Waits-clause-end c =
    let waiting = rw c.in-Waits.is at c.in_ok-frame.ensures.read in
    let all = no_frame_more _ _ _ _ c.loop-frame.invariant (Ok c.loop-frame.rest.now) (stream_waits _ waiting.unfinished) in
    (all.1, waiting)

pub returns-in-Fault-clause-frames : goal.returns-in-Fault-clause-frames
returns-in-Fault-clause-frames c =
    let all = no_frame_more _ _ _ _ c.loop-frame.invariant (Err c.in-Fault.e) (stream_fault _ _ (rw c.in-Fault.is at c.in_ok-frame.ensures.read)) in
    all.0

pub returns-in-Fault-clause-end : goal.returns-in-Fault-clause-end
returns-in-Fault-clause-end c =
    let all = no_frame_more _ _ _ _ c.loop-frame.invariant (Err c.in-Fault.e) (stream_fault _ _ (rw c.in-Fault.is at c.in_ok-frame.ensures.read)) in
    all.1
