-- Sealed frames, one behind the other.
use Rattle.std.proofs.Common.{◌≡◌, ℕ, ◌+◌, ◌<◌, List, [], ◌∷◌, ◌++◌, length, get_or, take, sym, ap, ◌∙◌, append_assoc, arith}
use Rattle.std.proofs.lemmas.List.{append-nil, length-take-le, take_more}
use Rattle.am_gossip.specs.declared.frame.Frame.{Frame}
use Rattle.am_peer_auth.specs.declared.seal.Lock.{Lock}
use Rattle.am_peer_auth.specs.declared.sequence.Sequence.{Sequence}
use Rattle.am_peer_auth.specs.Seals.{sealed_frame, sealed_frames}
use Rattle.am_peer_auth.specs.Sequences.{after, next_in}
use Rattle.am_peer_auth.proofs.Cuts.{behind_next}

-- no place is behind none
pub behind_none : (place : Sequence) → place ≡ after 0 place
behind_none place =
    let none : place.number ≡ place.number + 0 = omega arith in
    ap (λ (n : ℕ). record place { number = n }) none

-- one frame more stands behind the others, at the place behind them
pub sealed_behind : (lock : Lock) (addressee : List ℕ) (place : Sequence) (frames : List Frame) (frame : Frame)
    → sealed_frames lock addressee place (frames ++ frame ∷ []) ≡ sealed_frames lock addressee place frames ++ sealed_frame lock addressee (after (length frames) place) frame
sealed_behind lock addressee place [] frame =
    append-nil (sealed_frame lock addressee place frame) ∙ ap (λ (p : Sequence). sealed_frame lock addressee p frame) (behind_none place)
sealed_behind lock addressee place (other ∷ frames) frame =
    let one : List ℕ = sealed_frame lock addressee place other in
    ap (λ (l : List ℕ). one ++ l) (sealed_behind lock addressee (next_in place) frames frame)
    ∙ sym (append_assoc one (sealed_frames lock addressee (next_in place) frames) (sealed_frame lock addressee (after (length frames) (next_in place)) frame))
    ∙ ap (λ (p : Sequence). (one ++ sealed_frames lock addressee (next_in place) frames) ++ sealed_frame lock addressee p frame) (sym (behind_next (length frames) place))

-- of frames in a list so many have gone out, and the next one goes out behind them
pub one_further : (lock : Lock) (addressee : List ℕ) (place : Sequence) (frames : List Frame) (i : ℕ) (frame : Frame) → i < length frames → frame ≡ get_or frames i frame
    → sealed_frames lock addressee place (take i frames) ++ sealed_frame lock addressee (after i place) frame ≡ sealed_frames lock addressee place (take (i + 1) frames)
one_further lock addressee place frames i frame within is =
    let gone : List Frame = take i frames in
    ap (λ (n : ℕ). sealed_frames lock addressee place gone ++ sealed_frame lock addressee (after n place) frame) (sym (length-take-le i frames (omega arith)))
    ∙ sym (sealed_behind lock addressee place gone frame)
    ∙ ap (λ (f : Frame). sealed_frames lock addressee place (gone ++ f ∷ [])) is
    ∙ ap (sealed_frames lock addressee place) (sym (take_more frames i frame within))
