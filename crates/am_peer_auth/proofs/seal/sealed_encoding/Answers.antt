use Rattle.std.proofs.Common.{ℕ, List, refl, ap, ◌+◌, ◌++◌, ◌∙◌, take}
use Rattle.am_peer_auth.specs.declared.sequence.Sequence.{Sequence}
use Rattle.am_peer_auth.specs.Seals.{sealed_frame, sealed_frames}
use Rattle.am_peer_auth.specs.Sequences.{next_in}
use Rattle.am_peer_auth.proofs.Numbered.{one_further}
use Rattle.am_peer_auth.proofs.Walked.{one_behind}
use Rattle.am_peer_auth.proofs.seal.sealed_encoding.Goals as goal

pub loop-frame-preserved : goal.loop-frame-preserved
loop-frame-preserved c =
    let i = c.loop-frame.frame-index in
    let frame = c.frame-item.result in
    record {
      encoding = c.in_ok-append_sealed.ensures
          ∙ ap (λ (l : List ℕ). l ++ sealed_frame c.args.lock c.args.addressee.now c.loop-frame.next frame) c.loop-frame.invariant.encoding
          ∙ ap (λ (p : Sequence). sealed_frames c.args.lock c.args.addressee.now c.args.place (take i c.args.frames.now) ++ sealed_frame c.args.lock c.args.addressee.now p frame) c.loop-frame.invariant.next
          ∙ one_further c.args.lock c.args.addressee.now c.args.place c.args.frames.now i frame c.loop-frame-test.true c.frame-item.is;
      next = c.in-Some.ensures.next ∙ ap next_in c.loop-frame.invariant.next ∙ one_behind i (i + 1) c.args.place refl;
    }
