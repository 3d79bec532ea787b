use Rattle.std.proofs.Common.{◌≡◌, ℕ, ◌-◌, length, take, drop, List, [], ◌∷◌, ◌++◌, sym, ap, ◌∙◌, rules, arith}
use Rattle.std.proofs.lemmas.Result.{IfOk-weaker}
use Rattle.am_gossip.specs.declared.frame.Frame.{Frame}
use Rattle.am_gossip.specs.Streams.{Stream, stream_of}
use Rattle.am_gossip.proofs.Streaming.{finished_after, finished_within, stream_finished, stream_waits, stream_fault, ends_same, ok_rest}
use Rattle.am_gossip.proofs.feeder.take_piece.Goals as goal

pub overflow_sub-len : goal.overflow_sub-len
overflow_sub-len c = finished_after c.args.held.now.items c.args.piece.now _ _ c.len-waiting.result (omega (arith, c.len-waiting.ensures)) c.requires.unfinished (rw c.in-Frame.is at c.in_ok-frame.ensures.read)

pub slice_bounds-take_rest-count : goal.slice_bounds-take_rest-count
slice_bounds-take_rest-count c = finished_within c.args.held.now.items c.args.piece.now _ _ c.len-waiting.result (omega (arith, c.len-waiting.ensures)) c.requires.unfinished (rw c.in-Frame.is at c.in_ok-frame.ensures.read)

pub slice_bounds-take_rest-start : goal.slice_bounds-take_rest-start
slice_bounds-take_rest-start c = let le = slice_bounds-take_rest-count c in search rules

pub returns-in_ok-push-in-Frame-clause-frames : goal.returns-in_ok-push-in-Frame-clause-frames
returns-in_ok-push-in-Frame-clause-frames c =
    let s = stream_finished c.args.held.now.items c.args.piece.now _ _ c.len-waiting.result (omega (arith, c.len-waiting.ensures)) c.requires.unfinished (rw c.in-Frame.is at c.in_ok-frame.ensures.read) in
    let items : c.push.new.self.items ≡ c.in-Frame.frame ∷ [] = c.in_ok-push-in-Frame.ensures.items ∙ ap (λ (l : List Frame). l ++ c.in-Frame.frame ∷ []) c.new-frames.ensures.items in
    let used : ℕ = c.in-Frame.len - c.len-waiting.result in
    let rest : List ℕ = take (length c.args.piece.now - used) (drop used c.args.piece.now) in
    IfOk-weaker c.take_rest-in-Frame.result _ _ (λ x is. is ∙ ap (λ (l : List Frame). l ++ (stream_of rest).frames) items ∙ sym (ap (λ (t : Stream). t.frames) s)) c.take_rest-in-Frame.ensures.frames

pub returns-in_ok-push-in-Frame-clause-end : goal.returns-in_ok-push-in-Frame-clause-end
returns-in_ok-push-in-Frame-clause-end c =
    let s = stream_finished c.args.held.now.items c.args.piece.now _ _ c.len-waiting.result (omega (arith, c.len-waiting.ensures)) c.requires.unfinished (rw c.in-Frame.is at c.in_ok-frame.ensures.read) in
    IfOk-weaker c.take_rest-in-Frame.result _ _ (λ x is. ends_same x.1 _ _ _ (sym (ap (λ (t : Stream). t.ending) s)) is) c.take_rest-in-Frame.ensures.end

pub returns-in-Waits-clause-frames : goal.returns-in-Waits-clause-frames
returns-in-Waits-clause-frames c =
    let waiting = rw c.in-Waits.is at c.in_ok-frame.ensures.read in
    c.new-frames.ensures.items ∙ sym (ap (λ (t : Stream). t.frames) (stream_waits _ waiting.unfinished))

pub returns-in-Waits-clause-end : goal.returns-in-Waits-clause-end
returns-in-Waits-clause-end c =
    let waiting = rw c.in-Waits.is at c.in_ok-frame.ensures.read in
    let held = rw c.in-Waits.is at c.in_ok-frame.ensures.waits in
    (ap (λ (t : Stream). t.ending) (stream_waits _ waiting.unfinished) ∙ ap ok_rest (sym held), rw held waiting)

pub returns-in-Fault-clause-frames : goal.returns-in-Fault-clause-frames
returns-in-Fault-clause-frames c =
    c.new-frames.ensures.items ∙ sym (ap (λ (t : Stream). t.frames) (stream_fault _ _ (rw c.in-Fault.is at c.in_ok-frame.ensures.read)))

pub returns-in-Fault-clause-end : goal.returns-in-Fault-clause-end
returns-in-Fault-clause-end c = ap (λ (t : Stream). t.ending) (stream_fault _ _ (rw c.in-Fault.is at c.in_ok-frame.ensures.read))
