-- Frames that are taken one behind the other.
use Rattle.std.proofs.Common.{◌≡◌, ℕ, ◌+◌, ◌<◌, ◌≤◌, List, [], ◌∷◌, ◌++◌, length, length-append, take, drop, Result, subst, sym, ap, ◌∙◌, append_assoc, inr, arith}
use Rattle.std.specs.Int.{w32, from_be_bytes}
use Rattle.std.proofs.lemmas.List.{append-nil}
use Rattle.am_gossip.specs.declared.frame.Frame.{Frame}
use Rattle.am_peer_auth.specs.declared.seal.Lock.{Lock}
use Rattle.am_peer_auth.specs.declared.seal.SealError.{SealError}
use Rattle.am_gossip.specs.Streams.{stream_of}
use Rattle.am_peer_auth.specs.declared.seal.SealError.TheVariants.{Length, Sum, NotOneFrame, Number, Memory}
use Rattle.am_peer_auth.specs.declared.sequence.Sequence.{Sequence}
use Rattle.am_peer_auth.specs.Sequences.{after, next_in}
use Rattle.am_peer_auth.specs.Seals.{IsOnly, IsRight, IsUntaken, seal_sum}
use Rattle.am_peer_auth.specs.Openings.{EndsSo, IsRefused, IsShort, IsTaken, IsWhole, Opens, most_encoding, rest_of, size_in, sum_in, encoding_in}

-- the place of the next frame is that behind one more
pub one_behind : (count more : ℕ) (place : Sequence) → more ≡ count + 1 → next_in (after count place) ≡ after more place
one_behind count more place e =
    let same : (place.number + count) + 1 ≡ place.number + more = omega arith in
    ap (λ (n : ℕ). record place { number = n }) same

-- these frames are taken already, up to this place, and whatever the rest opens to from there stands behind them
pub record HasOpened (lock : Lock) (sender : List ℕ) (place : Sequence) (bytes : List ℕ) (reached : Sequence) (rest : List ℕ) (frames : List Frame) : Type 0 where
  pub on : (more : List Frame) (ending : Result (List ℕ) SealError) → Opens lock sender reached rest more ending → Opens lock sender place bytes (frames ++ more) ending
  pub counted : reached ≡ after (length frames) place

module _ (lock : Lock) (sender : List ℕ) (place : Sequence) (bytes : List ℕ) (reached : Sequence) (rest : List ℕ) (frames : List Frame)
    (h : HasOpened lock sender place bytes reached rest frames) where
  pub one_more : (frame : Frame) (next : Sequence) → IsTaken lock sender reached rest frame → next ≡ next_in reached
      → HasOpened lock sender place bytes next (rest_of rest) (frames ++ frame ∷ [])
  one_more frame next taken is = record {
    on = λ more ending opens.
        let P : List Frame → Type 0 = λ l. Opens lock sender place bytes l ending in
        let Q : Sequence → Type 0 = λ from. Opens lock sender from (rest_of rest) more ending in
        subst P (sym (append_assoc frames (frame ∷ []) more)) (h.on (frame ∷ more) ending (taken, subst Q is opens));
    counted = is ∙ ap next_in h.counted ∙ one_behind (length frames) (length (frames ++ frame ∷ [])) place (length-append frames (frame ∷ []));
  }

  pub no_more : (ending : Result (List ℕ) SealError) → EndsSo lock sender reached rest ending → Opens lock sender place bytes frames ending
  no_more ending ends =
      let P : List Frame → Type 0 = λ l. Opens lock sender place bytes l ending in
      subst P (append-nil frames) (h.on [] ending ends)

-- ---- what stands at the front, cut off part by part
module _ (bytes sum first size behind : List ℕ) (n : ℕ) (sum_is : sum ≡ take 32 bytes) (first_is : first ≡ drop 32 bytes)
    (first_len : length first + 32 ≡ length bytes) (size_is : size ≡ take 4 first) (behind_is : behind ≡ drop 4 first)
    (behind_len : length behind + 4 ≡ length first) (n_is : n ≡ from_be_bytes w32 size) where
  pub size_there : n ≡ size_in bytes
  unfolding size_in
  size_there = n_is ∙ ap (from_be_bytes w32) (size_is ∙ ap (take 4) first_is)

  pub encoding_there : take n behind ≡ encoding_in bytes
  encoding_there = ap (λ (k : ℕ). take k behind) size_there ∙ ap (take (size_in bytes)) (behind_is ∙ ap (drop 4) first_is)

  pub whole_there : n ≤ most_encoding → n ≤ length behind → IsWhole bytes
  whole_there short within = record {
    head = omega (arith, first_len, behind_len);
    short = omega (arith, short, size_there);
    within = omega (arith, within, first_len, behind_len, size_there);
  }

  pub right_there : (lock : Lock) (sender : List ℕ) (place : Sequence) → IsRight lock sender place sum (take n behind) → IsRight lock sender place (sum_in bytes) (encoding_in bytes)
  right_there lock sender place right = sym sum_is ∙ right ∙ ap (seal_sum lock.secret.now place sender lock.name.now) encoding_there

  pub taken_there : (lock : Lock) (sender : List ℕ) (place next : Sequence) (frame : Frame) → n ≤ most_encoding → n ≤ length behind
      → IsRight lock sender place sum (take n behind) → IsOnly (take n behind) frame → next ≡ next_in place
      → IsTaken lock sender place bytes frame × (36 + n ≡ 36 + size_in bytes) × (next ≡ next_in place)
  taken_there lock sender place next frame short within right is behind_is = (
    record {
      whole = whole_there short within;
      right = right_there lock sender place right;
      is = ap stream_of (sym encoding_there) ∙ is;
    },
    ap (λ (k : ℕ). 36 + k) size_there,
    behind_is,
  )

  pub refused_there : (lock : Lock) (sender : List ℕ) (place : Sequence) (e : SealError) → n ≤ most_encoding → n ≤ length behind
      → IsUntaken lock sender place sum (take n behind) e → IsRefused lock sender place bytes e
  refused_there lock sender place Length short within untaken = absurd untaken
  refused_there lock sender place Number short within untaken = absurd untaken
  refused_there lock sender place Sum short within untaken =
      (whole_there short within, λ right. untaken (sum_is ∙ right ∙ ap (seal_sum lock.secret.now place sender lock.name.now) (sym encoding_there)))
  refused_there lock sender place NotOneFrame short within untaken =
      (whole_there short within, right_there lock sender place untaken.0, λ frame is. untaken.1 frame (ap stream_of encoding_there ∙ is))
  refused_there lock sender place Memory short within untaken = tt

  pub long_there : most_encoding < n → (36 ≤ length bytes) × (most_encoding < size_in bytes)
  long_there long = (omega (arith, first_len, behind_len), omega (arith, long, size_there))

  pub short_there : n ≤ most_encoding → length behind < n → IsShort bytes
  short_there short lacks = inr (omega (arith, short, size_there), omega (arith, lacks, first_len, behind_len, size_there))
