-- Each text is a stream in one way only.
use Rattle.std.proofs.Common.{◌≡◌, ℕ, zero, suc, ◌≤◌, List, [], ◌∷◌, ◌++◌, length, take, drop, length-drop, append_assoc, Result, Ok, Err, refl, sym, ap, ◌∙◌, arith}
use Rattle.std.proofs.lemmas.List.{take-append-drop, drop_at}
use Rattle.am_gossip.specs.declared.error.FrameError.{FrameError}
use Rattle.am_gossip.specs.declared.frame.Frame.{Frame}
use Rattle.am_gossip.specs.Streams.{whole, fault, incomplete, front_of, Stream, put_before, stream_of}
use Rattle.am_gossip.specs.Grammar.{AreFrames, EndsIn, IsStream}
use Rattle.am_gossip.proofs.Fronts.{front_within}
use Rattle.am_gossip.proofs.Streaming.{make, stream_first, stream_fault, stream_waits}
use Rattle.am_gossip.proofs.Spellings.{frame_found, frame_reads, fault_found, fault_reads, unfinished_found, unfinished_reads}

-- ---- what is read is a stream
by_front : (bytes : List ℕ) → ((f : Frame) (k : ℕ) → front_of bytes ≡ whole f k → IsStream (stream_of (drop k bytes)) (drop k bytes)) → IsStream (stream_of bytes) bytes
by_front bytes later =
    elim (front_of bytes) as (λ r. front_of bytes ≡ r → IsStream (stream_of bytes) bytes) [
      | whole f k ↦ λ is.
          let others = later f k is in
          rw (stream_first bytes f k is) (record {
            front = take k bytes ++ others.front;
            behind = others.behind;
            bytes_are = sym (take-append-drop k bytes) ∙ ap (λ (x : List ℕ). take k bytes ++ x) others.bytes_are ∙ sym (append_assoc (take k bytes) others.front others.behind);
            frames_are = (take k bytes, others.front, refl, frame_found bytes f k is, others.frames_are);
            ends = others.ends;
          })
      | fault e ↦ λ is. rw (stream_fault bytes e is) (record { front = []; behind = bytes; bytes_are = refl; frames_are = refl; ends = fault_found bytes e is })
      | incomplete ↦ λ is. rw (stream_waits bytes is) (record { front = []; behind = bytes; bytes_are = refl; frames_are = refl; ends = (refl, unfinished_found bytes is) })
    ] refl

stream_at : (n : ℕ) (bytes : List ℕ) → length bytes ≤ n → IsStream (stream_of bytes) bytes
stream_at zero bytes le = by_front bytes (λ f k is. let w = front_within bytes f k is in absurd (omega (arith, w, le)))
stream_at (suc n) bytes le = by_front bytes (λ f k is. let w = front_within bytes f k is in stream_at n (drop k bytes) (omega (arith, w, le, length-drop k bytes)))

pub stream_found : (bytes : List ℕ) → IsStream (stream_of bytes) bytes
stream_found bytes = stream_at (length bytes) bytes (omega arith)

-- ---- a stream is read
ended : (ending : Result (List ℕ) FrameError) (bytes : List ℕ) → EndsIn ending bytes → stream_of bytes ≡ make [] ending
ended (Ok rest) bytes is = stream_waits bytes (unfinished_reads bytes is.1) ∙ ap (λ (x : List ℕ). make [] (waits x)) is.0
  where
    waits : List ℕ → Result (List ℕ) FrameError
    waits x = Ok x
ended (Err e) bytes is = stream_fault bytes e (fault_reads e bytes is)

stream_reads : (fs : List Frame) (ending : Result (List ℕ) FrameError) (front behind : List ℕ) → AreFrames fs front → EndsIn ending behind → stream_of (front ++ behind) ≡ make fs ending
stream_reads [] ending front behind none ends = ap (λ (x : List ℕ). stream_of (x ++ behind)) none ∙ ended ending behind ends
stream_reads (f ∷ fs) ending front behind (text, others, is, one, more) ends =
    let regroup : front ++ behind ≡ text ++ (others ++ behind) = ap (λ (x : List ℕ). x ++ behind) is ∙ append_assoc text others behind in
    let first = stream_first (text ++ (others ++ behind)) f (length text) (frame_reads f text (others ++ behind) one) in
    ap stream_of regroup ∙ first
    ∙ ap (λ (x : List ℕ). put_before (f ∷ []) (stream_of x)) (drop_at text (others ++ behind) (length text) refl)
    ∙ ap (put_before (f ∷ [])) (stream_reads fs ending others behind more ends)

pub stream_is : (s : Stream) (bytes : List ℕ) → IsStream s bytes → s ≡ stream_of bytes
stream_is s bytes is = sym (ap stream_of is.bytes_are ∙ stream_reads s.frames s.ending is.front is.behind is.frames_are is.ends)

pub unique : (s t : Stream) (bytes : List ℕ) → IsStream s bytes → IsStream t bytes → s ≡ t
unique s t bytes first second = stream_is s bytes first ∙ sym (stream_is t bytes second)
