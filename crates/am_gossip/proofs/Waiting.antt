-- The progress in reading a frame.
use Rattle.std.proofs.Common.{◌≡◌, ℕ, suc, ◌+◌, ◌-◌, ◌<◌, ◌≤◌, List, [], ◌∷◌, ◌++◌, length, take, drop, get_or, Result, Ok, Err, refl, sym, ap, ◌∙◌, append_assoc, arith, length-append}
use Rattle.std.proofs.lemmas.List.{take-append-drop}
use Rattle.std.proofs.Math.Seq.{take-suc, take-append-add}
use Rattle.std.proofs.lemmas.List.{drop-take}
use Rattle.am_wire.proofs.Items.{rest_is}
use Rattle.am_gossip.specs.declared.error.FrameError.{FrameError}
use Rattle.am_gossip.specs.declared.frame.Frame as frame
use Rattle.am_gossip.specs.declared.head.Head.{Head}
use Rattle.am_gossip.specs.declared.header.HeaderProgress.{HeaderProgress}
use Rattle.am_gossip.specs.declared.header.HeaderProgress.TheVariants.{Before, InLength, InPayload}
use Rattle.am_gossip.specs.declared.reading.FrameRead.{FrameRead}
use Rattle.am_gossip.specs.declared.reading.FrameRead.TheVariants.{Frame, Waits, Fault}
use Rattle.am_gossip.specs.Frames.{reads_payload}
use Rattle.am_gossip.specs.Headers.{head, bad, header_of}
use Rattle.am_gossip.specs.Streams.{incomplete, payload_front, front_of}
use Rattle.am_gossip.specs.HeaderProgresses.{IsAt, IsWaiting, IsWhole, IsRead, Holds}
use Rattle.am_gossip.proofs.Fronts.{header_stays, bad_stays, length_goes_on, front_short, front_more_wanted, front_full}

-- ---- one byte of a piece
pub one_byte : (before bytes : List ℕ) (i : ℕ) → i < length bytes → ((before ++ take i bytes) ++ get_or bytes i 0 ∷ []) ++ drop (suc i) bytes ≡ before ++ bytes
one_byte before bytes i lt =
    let front : take i bytes ++ get_or bytes i 0 ∷ [] ≡ take (suc i) bytes = sym (take-suc bytes i 0 lt) in
    ap (λ (x : List ℕ). x ++ drop (suc i) bytes) (append_assoc before (take i bytes) (get_or bytes i 0 ∷ []) ∙ ap (λ (x : List ℕ). before ++ x) front)
    ∙ append_assoc before (take (suc i) bytes) (drop (suc i) bytes)
    ∙ ap (λ (x : List ℕ). before ++ x) (take-append-drop (suc i) bytes)

pub bytes_before : (before bytes : List ℕ) (i : ℕ) → (before ++ take i bytes) ++ drop i bytes ≡ before ++ bytes
bytes_before before bytes i = append_assoc before (take i bytes) (drop i bytes) ∙ ap (λ (x : List ℕ). before ++ x) (take-append-drop i bytes)

pub bad_before : (before bytes : List ℕ) (i : ℕ) (e : FrameError) → i < length bytes → header_of ((before ++ take i bytes) ++ get_or bytes i 0 ∷ []) ≡ bad e → header_of (before ++ bytes) ≡ bad e
bad_before before bytes i e lt h = ap header_of (sym (one_byte before bytes i lt)) ∙ bad_stays _ (drop (suc i) bytes) e h

pub payload_before : (before bytes : List ℕ) (i : ℕ) (s : HeaderProgress) (h : Head) → s ≡ InPayload h → IsAt s (before ++ take i bytes) → IsAt s (before ++ bytes)
payload_before before bytes i s h is at =
    let here : header_of (before ++ take i bytes) ≡ head h.kind h.size h.len = rw is at at in
    rw is (ap header_of (sym (bytes_before before bytes i)) ∙ header_stays (before ++ take i bytes) (drop i bytes) _ _ _ here)

-- ---- what waits
pub waits_in_header : (s : HeaderProgress) (bytes : List ℕ) → ((h : Head) → s ≡ InPayload h → ⊥) → IsAt s bytes → IsWaiting s bytes
unfolding header_of
waits_in_header Before bytes other at = record { at = at; unfinished = front_more_wanted bytes (ap header_of at) }
waits_in_header (InLength kind groups) bytes other at =
    let (text, is, g) = at in
    let few = groups.few in
    record { at = at; unfinished = front_more_wanted bytes (length_goes_on bytes text kind 0 groups.places is g.places (omega (arith, few, g.places)) g.go_on) }
waits_in_header (InPayload h) bytes other at = absurd (other h refl)

pub waits_in_payload : (h : Head) (bytes : List ℕ) → header_of bytes ≡ head h.kind h.size h.len → length bytes < h.len + h.size → IsWaiting (InPayload h) bytes
waits_in_payload h bytes at lt = record { at = at; unfinished = front_short bytes _ _ _ at lt }

-- ---- what is whole
module _ (h : Head) (bytes payload : List ℕ) (is : IsWhole h bytes payload) where
  pub whole_front : (r : Result frame.Frame FrameError) → reads_payload h.kind payload ≡ r → front_of bytes ≡ payload_front (h.len + h.size) r
  whole_front r reads =
      front_full bytes _ _ _ is.header is.within
      ∙ ap (λ (x : List ℕ). payload_front (h.len + h.size) (reads_payload h.kind x)) (sym is.payload_is)
      ∙ ap (payload_front (h.len + h.size)) reads

-- a payload, the end of which a piece brings; `all` is what is held then
pub finished : (h : Head) (held piece all payload : List ℕ) (missing : ℕ) → header_of (held ++ piece) ≡ head h.kind h.size h.len → h.len + h.size ≡ length held + missing → missing ≤ length piece
    → all ≡ held ++ take missing piece → payload ≡ take (length all - h.len) (drop h.len all) → IsWhole h (held ++ piece) payload
finished h held piece all payload missing header total le is payload_is = record {
  header = header;
  within = omega (arith, total, le, length-append held piece);
  payload_is =
      payload_is ∙ rest_is h.len all ∙ ap (drop h.len) (is ∙ sym (take-append-add held piece missing))
      ∙ ap (λ (n : ℕ). drop h.len (take n (held ++ piece))) (sym total)
      ∙ drop-take h.len h.size (held ++ piece);
}

-- a payload that lies whole in the bytes
pub between : (h : Head) (bytes : List ℕ) → header_of bytes ≡ head h.kind h.size h.len → h.len + h.size ≤ length bytes → IsWhole h bytes (take (h.len + h.size - h.len) (drop h.len bytes))
between h bytes header le = record {
  header = header;
  within = le;
  payload_is = let e : h.len + h.size - h.len ≡ h.size = omega arith in ap (λ (n : ℕ). take n (drop h.len bytes)) e;
}

full_waits : (n : ℕ) (r : Result frame.Frame FrameError) → payload_front n r ≡ incomplete → ⊥
full_waits n (Ok f) h = cc
full_waits n (Err e) h = cc

pub whole_holds : (h : Head) (bytes payload held : List ℕ) (read : FrameRead) → IsWhole h bytes payload → IsRead read bytes → Holds read bytes held
whole_holds h bytes payload held (Frame f n) is at = tt
whole_holds h bytes payload held (Waits s) is at = absurd (full_waits _ _ (sym (whole_front h bytes payload is _ refl) ∙ at.unfinished))
whole_holds h bytes payload held (Fault e) is at = tt
