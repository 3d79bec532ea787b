-- A sealed stream in two pieces.
use Rattle.std.proofs.Common.{◌≡◌, ℕ, suc, ◌+◌, List, [], ◌∷◌, ◌++◌, length, length-append, length-drop, take, drop, Result, Ok, subst, sym, ap, ◌∙◌, arith}
use Rattle.std.proofs.lemmas.List.{drop-append-le, take-append-le}
use Rattle.std.specs.Int.{w32, from_be_bytes}
use Rattle.am_gossip.specs.declared.frame.Frame.{Frame}
use Rattle.am_gossip.specs.Streams.{stream_of}
use Rattle.am_peer_auth.specs.declared.seal.Lock.{Lock}
use Rattle.am_peer_auth.specs.declared.seal.SealError.{SealError}
use Rattle.am_peer_auth.specs.declared.sequence.Sequence.{Sequence}
use Rattle.am_peer_auth.specs.Seals.{seal_sum}
use Rattle.am_peer_auth.specs.Sequences.{after, next_in}
use Rattle.am_peer_auth.specs.Openings.{IsTaken, IsWhole, Opens, rest_of, size_in, encoding_in}

-- what stands whole at the front of the first piece stands there in both
module _ (first second : List ℕ) (whole : IsWhole first) where
  behind_sum : drop 32 (first ++ second) ≡ drop 32 first ++ second
  behind_sum = drop-append-le 32 first second (omega (arith, whole.head))

  size_stays : size_in (first ++ second) ≡ size_in first
  unfolding size_in
  size_stays = ap (from_be_bytes w32) (ap (take 4) behind_sum ∙ take-append-le 4 (drop 32 first) second (omega (arith, whole.head, length-drop 32 first)))

  behind_head : drop 4 (drop 32 (first ++ second)) ≡ drop 4 (drop 32 first) ++ second
  behind_head = ap (drop 4) behind_sum ∙ drop-append-le 4 (drop 32 first) second (omega (arith, whole.head, length-drop 32 first))

  encoding_stays : encoding_in (first ++ second) ≡ encoding_in first
  encoding_stays =
      ap (λ (n : ℕ). take n (drop 4 (drop 32 (first ++ second)))) size_stays
      ∙ ap (take (size_in first)) behind_head
      ∙ take-append-le (size_in first) (drop 4 (drop 32 first)) second (omega (arith, whole.within, length-drop 32 first, length-drop 4 (drop 32 first)))

  pub rest_stays : rest_of (first ++ second) ≡ rest_of first ++ second
  rest_stays = ap (λ (n : ℕ). drop (36 + n) (first ++ second)) size_stays ∙ drop-append-le (36 + size_in first) first second whole.within

  whole_stays : IsWhole (first ++ second)
  whole_stays = record {
    head = omega (arith, whole.head, length-append first second);
    short = omega (arith, whole.short, size_stays);
    within = omega (arith, whole.within, size_stays, length-append first second);
  }

  pub taken_stays : (lock : Lock) (sender : List ℕ) (place : Sequence) (frame : Frame) → IsTaken lock sender place first frame
      → IsTaken lock sender place (first ++ second) frame
  taken_stays lock sender place frame taken = record {
    whole = whole_stays;
    right = take-append-le 32 first second (omega (arith, whole.head)) ∙ taken.right ∙ ap (seal_sum lock.secret.now place sender lock.name.now) (sym encoding_stays);
    is = ap stream_of encoding_stays ∙ taken.is;
  }

-- the place behind a frame and so many more
pub behind_next : (count : ℕ) (place : Sequence) → after (suc count) place ≡ after count (next_in place)
behind_next count place =
    let more : place.number + suc count ≡ (place.number + 1) + count = omega arith in
    ap (λ (n : ℕ). record place { number = n }) more

pub cut : (lock : Lock) (sender : List ℕ) (place : Sequence) (first second rest : List ℕ) (frames more : List Frame) (ending : Result (List ℕ) SealError)
    → Opens lock sender place first frames (Ok rest) → Opens lock sender (after (length frames) place) (rest ++ second) more ending
    → Opens lock sender place (first ++ second) (frames ++ more) ending
cut lock sender place first second rest [] more ending opens later =
    let P : List ℕ → Type 0 = λ bytes. Opens lock sender place (bytes ++ second) more ending in
    let Q : ℕ → Type 0 = λ n. Opens lock sender (record place { number = n }) (rest ++ second) more ending in
    let none : place.number + 0 ≡ place.number = omega arith in
    subst P opens.0 (subst Q none later)
cut lock sender place first second rest (frame ∷ frames) more ending opens later =
    let P : List ℕ → Type 0 = λ bytes. Opens lock sender (next_in place) bytes (frames ++ more) ending in
    let Q : Sequence → Type 0 = λ from. Opens lock sender from (rest ++ second) more ending in (
      taken_stays first second opens.0.whole lock sender place frame opens.0,
      subst P (sym (rest_stays first second opens.0.whole))
          (cut lock sender (next_in place) (rest_of first) second rest frames more ending opens.1 (subst Q (behind_next (length frames) place) later)),
    )
