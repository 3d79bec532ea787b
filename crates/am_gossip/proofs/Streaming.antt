-- Streams, frame by frame, and what more bytes make of them.
use Rattle.std.proofs.Common.{◌≡◌, ℕ, zero, suc, ◌+◌, ◌-◌, ◌≤◌, List, [], ◌∷◌, ◌++◌, length, length-append, take, drop, subst, Result, Ok, Err, inl, inr, refl, sym, ap, ◌∙◌, append_assoc, arith}
use Rattle.std.specs.List.{flat_map}
use Rattle.std.proofs.lemmas.List.{append-nil}
use Rattle.std.proofs.Math.Seq.{drop-nil, drop-append-add}
use Rattle.am_wire.proofs.Items.{rest_is}
use Rattle.am_gossip.specs.declared.error.FrameError.{FrameError}
use Rattle.am_gossip.specs.declared.frame.Frame.{Frame}
use Rattle.am_gossip.specs.declared.reading.End.{End}
use Rattle.am_gossip.specs.HeaderProgresses.{EndsAs}
use Rattle.am_gossip.specs.Headers.{header_of}
use Rattle.am_gossip.specs.Streams.{Front, whole, fault, incomplete, front_of, Stream, put_before, next_frame, stream_from, stream_of, ends_with, goes_on, fed_in}
use Rattle.am_gossip.proofs.Fronts.{front_more, front_within, front_found, waits_short}

pub stream-skip : (skip : ℕ) (bytes : List ℕ) → stream_from skip bytes ≡ stream_of (drop skip bytes)
unfolding stream_from
stream-skip skip [] = simp drop-nil refl
stream-skip zero (b ∷ bytes) = refl
stream-skip (suc skip) (b ∷ bytes) = stream-skip skip bytes

-- ---- by what stands at the front
pub stream_first : (bytes : List ℕ) (f : Frame) (n : ℕ) → front_of bytes ≡ whole f n → stream_of bytes ≡ put_before (f ∷ []) (stream_of (drop n bytes))
unfolding stream_from
stream_first [] f n is = let w = front_within [] f n is in absurd (omega (arith, w))
stream_first (b ∷ bytes) f n is =
    let w = front_within (b ∷ bytes) f n is in
    let k : n ≡ suc (n - 1) = omega (arith, w.0) in
    let rest : drop (n - 1) bytes ≡ drop n (b ∷ bytes) = sym (ap (λ (i : ℕ). drop i (b ∷ bytes)) k) in
    rw is (ap (put_before (f ∷ [])) (stream-skip (n - 1) bytes ∙ ap stream_of rest))

pub stream_fault : (bytes : List ℕ) (e : FrameError) → front_of bytes ≡ fault e → stream_of bytes ≡ record { frames = []; ending = Err e }
unfolding stream_from front_of header_of
stream_fault [] e is = absurd cc
stream_fault (b ∷ bytes) e is = rw is refl

pub stream_waits : (bytes : List ℕ) → front_of bytes ≡ incomplete → stream_of bytes ≡ record { frames = []; ending = Ok bytes }
unfolding stream_from
stream_waits [] is = refl
stream_waits (b ∷ bytes) is = rw is refl

-- ---- in two pieces
abbrev pub make : List Frame → Result (List ℕ) FrameError → Stream
make x r = record { frames = x; ending = r }

goes_on-put_before : (fs : List Frame) (s : Stream) (later : List ℕ) → goes_on (put_before fs s) later ≡ put_before fs (goes_on s later)
goes_on-put_before fs s later = by_ending s.ending
  where
    by_ending : (r : Result (List ℕ) FrameError) → ends_with (put_before fs s) r later ≡ put_before fs (ends_with s r later)
    by_ending (Ok rest) =
        let t : Stream = stream_of (rest ++ later) in
        ap (λ (x : List Frame). make x t.ending) (append_assoc fs s.frames t.frames)
    by_ending (Err e) = refl

pub stream_cut : (skip : ℕ) (bytes later : List ℕ) → skip ≤ length bytes → stream_from skip (bytes ++ later) ≡ goes_on (stream_from skip bytes) later
unfolding stream_from
stream_cut zero [] later le = refl
stream_cut (suc skip) [] later le = absurd (omega (arith, le))
stream_cut (suc skip) (b ∷ bytes) later le = stream_cut skip bytes later (omega (arith, le))
stream_cut zero (b ∷ bytes) later le =
    let all : List ℕ = b ∷ bytes in
    elim (front_of all) as (λ r. front_of all ≡ r → next_frame (λ skip. stream_from skip (bytes ++ later)) (b ∷ (bytes ++ later)) (front_of (b ∷ (bytes ++ later))) ≡ goes_on (next_frame (λ skip. stream_from skip bytes) all r) later) [
      | whole f n ↦ λ is.
          let w = front_within all f n is in
          let others = stream_cut (n - 1) bytes later (omega (arith, w)) in
          rw (stays (whole f n) (whole_waits f n) is) (ap (put_before (f ∷ [])) others ∙ sym (goes_on-put_before (f ∷ []) (stream_from (n - 1) bytes) later))
      | fault e ↦ λ is. rw (stays (fault e) (fault_waits e) is) refl
      | incomplete ↦ λ is. refl
    ] refl
  where
    whole_waits : (f : Frame) (n : ℕ) → whole f n ≡ incomplete → ⊥
    whole_waits f n h = cc

    fault_waits : (e : FrameError) → fault e ≡ incomplete → ⊥
    fault_waits e h = cc

    stays : (r : Front) → (r ≡ incomplete → ⊥) → front_of (b ∷ bytes) ≡ r → front_of (b ∷ (bytes ++ later)) ≡ r
    stays r other is = elim (front_more (b ∷ bytes) later) [ inl same ↦ same ∙ is | inr waits ↦ absurd (other (sym is ∙ waits)) ]

-- any pieces behind the first bytes
pub stream_pieces : (bytes : List ℕ) (pieces : List (List ℕ)) → fed_in (stream_of bytes) pieces ≡ stream_of (bytes ++ flat_map (λ piece. piece) pieces)
stream_pieces bytes [] = ap stream_of (sym (append-nil bytes))
stream_pieces bytes (piece ∷ pieces) =
    ap (λ (s : Stream). fed_in s pieces) (sym (stream_cut 0 bytes piece (omega arith)))
    ∙ stream_pieces (bytes ++ piece) pieces
    ∙ ap stream_of (append_assoc bytes piece (flat_map (λ p. p) pieces))

-- ---- a loop that has put the first frames behind `start`
pub record HasRead (start now : List Frame) (bytes rest : List ℕ) : Type 0 where
  pub held : now ++ (stream_of rest).frames ≡ start ++ (stream_of bytes).frames
  pub ends : (stream_of rest).ending ≡ (stream_of bytes).ending

module _ (start now : List Frame) (bytes rest : List ℕ) (h : HasRead start now bytes rest) where
  pub one_frame_more : (f : Frame) (n : ℕ) → front_of rest ≡ whole f n → HasRead start (now ++ f ∷ []) bytes (drop n rest)
  one_frame_more f n is =
      let first = stream_first rest f n is in
      record {
        held = append_assoc now (f ∷ []) (stream_of (drop n rest)).frames ∙ ap (λ (s : Stream). now ++ s.frames) (sym first) ∙ h.held;
        ends = sym (ap (λ (s : Stream). s.ending) first) ∙ h.ends;
      }

  pub no_frame_more : (r : Result (List ℕ) FrameError) → stream_of rest ≡ make [] r → (now ≡ start ++ (stream_of bytes).frames) × ((stream_of bytes).ending ≡ r)
  no_frame_more r is = (
    sym (append-nil now) ∙ ap (λ (s : Stream). now ++ s.frames) (sym is) ∙ h.held,
    sym h.ends ∙ ap (λ (s : Stream). s.ending) is,
  )

-- ---- a frame that a piece finishes
module _ (held piece : List ℕ) (f : Frame) (n waiting : ℕ) (waiting_is : waiting ≡ length held) (waits : front_of held ≡ incomplete) (is : front_of (held ++ piece) ≡ whole f n) where
  pub finished_after : waiting ≤ n
  finished_after =
      let p = front_found (held ++ piece) f n is in
      let lt = waits_short held piece p.kind p.size p.start waits p.header in
      omega (arith, lt, p.len_is)

  pub finished_within : n - waiting ≤ length piece
  finished_within = let p = front_found (held ++ piece) f n is in omega (arith, p.len_is, p.within, length-append held piece)

  pub stream_finished : stream_of (held ++ piece) ≡ put_before (f ∷ []) (stream_of (take (length piece - (n - waiting)) (drop (n - waiting) piece)))
  stream_finished =
      let le = finished_after in
      let n_is : n ≡ length held + (n - waiting) = omega (arith, le) in
      let rest : drop n (held ++ piece) ≡ drop (n - waiting) piece = ap (λ (k : ℕ). drop k (held ++ piece)) n_is ∙ drop-append-add held piece (n - waiting) in
      stream_first (held ++ piece) f n is ∙ ap (λ (x : List ℕ). put_before (f ∷ []) (stream_of x)) (rest ∙ sym (rest_is (n - waiting) piece))

pub ends_same : (e : End) (rest : List ℕ) (r q : Result (List ℕ) FrameError) → r ≡ q → EndsAs e rest r → EndsAs e rest q
ends_same e rest r q same ends = subst (EndsAs e rest) same ends

abbrev pub ok_rest : List ℕ → Result (List ℕ) FrameError
ok_rest rest = Ok rest
