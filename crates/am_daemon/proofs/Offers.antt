-- The bytes that a member gives for its peers.
use Rattle.std.proofs.Common.{◌≡◌, ◌∙◌, ◌<◌, ◌≤◌, ◌==◌, ℕ, Bool, true, false, not, List, [], ◌∷◌, ◌++◌, length, max, suc, zero, get_or, set, map, Option, None, Some, ap, arith, cond, inl, inr, refl, rules, subst, sym}
use Rattle.std.proofs.lemmas.List.{get_or-map, get_or-set_same, length-set, map-set}
use Rattle.std.proofs.lemmas.Option.{slice_get_read}
use Rattle.std.proofs.Math.Seq.{map-set_same}
use Rattle.std.specs.Prelude.{IfNone, IfSome, IsSomeAnd, MatchOption, Result, Ok, Err, if◌then◌else◌, is_err, is_ok, slice_get, slice_set}
use Rattle.am_instance.specs.Configs.{Settings}
use Rattle.am_instance.specs.InstanceStates.{InstanceState}
use Rattle.am_instance.specs.Sendings.{Sent}
use Rattle.am_server.specs.declared.state_transfer.StateTransfer.{StateTransfer}
use Rattle.std.specs.Option.{option_map}
use Rattle.am_peers.specs.Queues.{frames_beside}
use Rattle.am_backend.specs.Outbound.{AreGone, IsTaken, IsEncodingFor, left_out}
use Rattle.am_peer_auth.specs.declared.sequence.Sequence.{Sequence}
use Rattle.am_daemon.specs.Offers.{AreHandedOn, AreKeptBack, AreLost, AreNext, ForPeers, GivesPart, IsGiven, IsNextPart, IsPutBy, Passes, PutBy, gone_on, nothing_put_by, place_in, put_behind, put_by_for, put_by_of, with_put_by}
use Rattle.am_gossip.specs.declared.frame.Frame.{Frame}
use Rattle.am_peer_auth.specs.declared.seal.Lock.{Lock}
use Rattle.am_daemon.specs.declared.member.pending_frames.PendingFrames.{PendingFrames}

-- ---- what is put by for one peer is changed

module _ (items : List PendingFrames) (peer : ℕ) (before after : PendingFrames) (within : peer < length items) (is : before ≡ get_or items peer before) where
  pub put_by_there : get_or (map put_by_of items) peer nothing_put_by ≡ put_by_of before
  put_by_there = get_or-map put_by_of items peer before nothing_put_by within ∙ ap put_by_of (sym is)

  pub put_by_changed : (change : PutBy → PutBy) → put_by_of after ≡ change (put_by_of before) →
      map put_by_of (set items peer after) ≡ set (map put_by_of items) peer (change (get_or (map put_by_of items) peer nothing_put_by))
  put_by_changed change changes = map-set put_by_of items peer after ∙ ap (set (map put_by_of items) peer) (changes ∙ ap change (sym put_by_there))

  pub put_by_kept : put_by_of after ≡ put_by_of before → map put_by_of (set items peer after) ≡ map put_by_of items
  put_by_kept same = map-set_same put_by_of items peer after before (same ∙ ap put_by_of is)

-- frames that are put by
pub is_put_by : (held : ForPeers) (peer : ℕ) (frames : List Frame) (opens was_open : Bool) (put_by : List PutBy) → (put_by_for held peer).is_open ≡ was_open → opens ≡ not was_open →
    put_by ≡ slice_set held.put_by peer (put_behind frames (put_by_for held peer)) → IsPutBy peer frames opens held (record held { put_by = put_by })
is_put_by held peer frames true true put_by open_ opens is = absurd cc
is_put_by held peer frames true false put_by open_ opens is = (open_, ap (λ (l : List PutBy). record held { put_by = l }) is)
is_put_by held peer frames false true put_by open_ opens is = inr (open_, ap (λ (l : List PutBy). record held { put_by = l }) is)
is_put_by held peer frames false false put_by open_ opens is = absurd cc

-- ---- fewer frames wait

eq-self : (n : ℕ) → (n == n) ≡ true
eq-self n = search rules

fewer : (place : ℕ) (queued : List (ℕ × Frame)) → length (frames_beside place queued) ≤ length queued
fewer place [] = omega arith
fewer place (q ∷ queued) = let rest = fewer place queued in
    elim (q.0 == place) as (λ b. length (cond (not b) (q ∷ frames_beside place queued) (frames_beside place queued)) ≤ length (q ∷ queued)) [ true ↦ omega arith | false ↦ omega arith ]

fewer_at : (place : ℕ) (queued : List (ℕ × Frame)) → IsSomeAnd (slice_get queued 0) (λ q. q.0 ≡ place) → length (frames_beside place queued) < length queued
fewer_at place [] first = absurd first
fewer_at place (q ∷ queued) first = let rest = fewer place queued in
    let same : (q.0 == place) ≡ true = subst (λ n. (n == place) ≡ true) (sym first) (eq-self place) in
    rw same (omega arith)

some_length : {X : Type 0} → (xs : List X) → (xs ≡ [] → ⊥) → 0 < length xs
some_length [] some = absurd (some refl)
some_length (x ∷ xs) some = omega arith

taken_fewer : (place : ℕ) (frames : List Frame) (old new : Sent) → IsTaken place frames old new → length new.frames < length old.frames
taken_fewer place frames old new taken = subst (λ (s : Sent). length s.frames < length old.frames) (sym taken.rest) (fewer_at place old.frames taken.first)

gone_fewer : (old new : Sent) → AreGone old new → (old.frames ≡ [] → ⊥) → length new.frames < length old.frames
gone_fewer old new (inl gone) some = absurd (some gone.0)
gone_fewer old new (inr gone) some = subst (λ (s : Sent). length s.frames < length old.frames) (sym gone) (some_length old.frames some)

kept_waits : (lock : Option Lock) (peer : ℕ) (frames : List Frame) (old new : ForPeers) → AreKeptBack lock peer frames old new → new.queue.frames ≡ old.queue.frames
kept_waits None peer frames old new counted = ap (λ (held : ForPeers). held.queue.frames) counted
kept_waits (Some lock) peer frames old new (inl same) = ap (λ (held : ForPeers). held.queue.frames) same
kept_waits (Some lock) peer frames old new (inr put) = ap (λ (held : ForPeers). held.queue.frames) put.1

pub handed_waits : (place : ℕ) (frames : List Frame) (old new : ForPeers) → AreHandedOn place frames old new → new.queue.frames ≡ old.queue.frames
handed_waits place frames old new (inl told) = ap (λ (held : ForPeers). held.queue.frames) told.1
handed_waits place frames old new (inr kept) = kept_waits old.lock place frames old new kept.1

-- where some wait, fewer do once those for one place are handed on
pub passes_fewer : (old new : ForPeers) → Passes old new → (old.queue.frames ≡ [] → ⊥) → length new.queue.frames < length old.queue.frames
passes_fewer old new (inl gone) some = subst (λ (held : ForPeers). length held.queue.frames < length old.queue.frames) (sym gone.2) (gone_fewer old.queue gone.0 gone.1 some)
passes_fewer old new (inr (place, frames, queue, taken, handed)) some = subst (λ (queued : List (ℕ × Frame)). length queued < length old.queue.frames)
    (sym (handed_waits place frames (record old { queue = queue }) new handed)) (taken_fewer place frames old.queue queue taken)

-- ---- what goes to a peer next

-- as many frames go as are counted
pub next_count : (put_by frames : List Frame) → AreNext put_by frames → max (length put_by) 1 ≡ length frames
next_count [] frames next = rw next.1 (omega arith)
next_count (frame ∷ put_by) frames next = rw next (omega arith)

set-set : {X : Type 0} (xs : List X) (i : ℕ) (x y : X) → set (set xs i x) i y ≡ set xs i y
set-set [] i x y = refl
set-set (z ∷ xs) zero x y = refl
set-set {X = X} (z ∷ xs) (suc i) x y = ap (λ (l : List X). z ∷ l) (set-set xs i x y)

-- what is put by for a peer, once it is changed
there_now : (held : ForPeers) (peer : ℕ) (it : PutBy) (queue : Sent) → peer < length held.put_by →
    record (with_put_by peer it held) { queue = queue } ≡ record (with_put_by peer (put_by_for (record (with_put_by peer it held) { queue = queue }) peer) held) { queue = queue }
there_now held peer it queue within = ap (λ (now : PutBy). record (with_put_by peer now held) { queue = queue }) (sym (get_or-set_same held.put_by peer it nothing_put_by within))

-- nothing goes to a peer, since nothing was put by for it, and no part is left
pub none_lost : (was new : ForPeers) (peer : ℕ) (it : PutBy) → peer < length was.put_by → (put_by_for was peer).frames ≡ [] → new ≡ with_put_by peer it was →
    (new ≡ record (with_put_by peer (put_by_for new peer) was) { queue = new.queue }) × AreLost (put_by_for was peer).frames was.queue new.queue
none_lost was new peer it within none taken = subst (λ (n : ForPeers). (n ≡ record (with_put_by peer (put_by_for n peer) was) { queue = n.queue }) × AreLost (put_by_for was peer).frames was.queue n.queue)
    (sym taken) (there_now was peer it was.queue within, inl (none, refl))

-- the link is closed behind frames that are lost
pub closed_given : (config : Settings) (peer : ℕ) (answer : List ℕ) (was mid new : ForPeers) → mid ≡ record (with_put_by peer (put_by_for mid peer) was) { queue = mid.queue } →
    AreLost (put_by_for was peer).frames was.queue mid.queue → new ≡ with_put_by peer nothing_put_by mid → IsGiven config peer answer None was new
closed_given config peer answer was mid new is lost closed = (
  mid.queue,
  lost,
  closed ∙ ap (with_put_by peer nothing_put_by) is
      ∙ ap (λ (l : List PutBy). record was { queue = mid.queue; put_by = l }) (set-set was.put_by peer (put_by_for mid peer) nothing_put_by),
)

-- what is given of the frames that go to a peer next, or what is lost of them
module _ {V : Type 0} (bytes_in : V → List ℕ) (config : Settings) (peer : ℕ) (answer : List ℕ) (was : ForPeers) (it : PutBy) (frames : List Frame) (from : Option Sequence)
    (queue : Sent) (within : peer < length was.put_by) (next : AreNext (put_by_for was peer).frames frames) (is : it ≡ gone_on (length frames) (put_by_for was peer))
    (place : from ≡ place_in answer (put_by_for was peer).number) where
  AreSettled : Option V → ForPeers → Type 0
  AreSettled result new = MatchOption result ((new ≡ record (with_put_by peer (put_by_for new peer) was) { queue = new.queue }) × AreLost (put_by_for was peer).frames was.queue new.queue)
      (λ bytes. IsGiven config peer answer (Some (bytes_in bytes)) was new)

  settled : (result : Option V) → queue.frames ≡ was.queue.frames → IfSome result (λ bytes. IsEncodingFor was.lock config peer from frames (bytes_in bytes)) →
      IfNone result (queue ≡ left_out (length frames) was.queue) → AreSettled result (record (with_put_by peer it was) { queue = queue })
  unfolding AreSettled
  settled None kept text unsent = (there_now was peer it queue within, inr (frames, next, unsent))
  settled (Some bytes) kept text unsent = (
    frames,
    next,
    subst (λ (f : Option Sequence). IsEncodingFor was.lock config peer f frames (bytes_in bytes)) place text,
    (ap (λ (i : PutBy). record (with_put_by peer i was) { queue = queue }) is, kept),
  )

  pub text_given : (result : Option V) (config' : Settings) (frames' : List Frame) (mid new : ForPeers) → config' ≡ config → frames' ≡ frames → mid ≡ with_put_by peer it was →
      new ≡ record mid { queue = queue } → queue.frames ≡ mid.queue.frames → IfSome result (λ bytes. IsEncodingFor mid.lock config' peer from frames' (bytes_in bytes)) →
      IfNone result (queue ≡ left_out (length frames') mid.queue) →
      MatchOption result ((new ≡ record (with_put_by peer (put_by_for new peer) was) { queue = new.queue }) × AreLost (put_by_for was peer).frames was.queue new.queue)
      (λ bytes. IsGiven config peer answer (Some (bytes_in bytes)) was new)
  unfolding AreSettled
  text_given result config' frames' mid new same_config same_frames taken left kept text unsent = subst (λ (n : ForPeers). AreSettled result n)
      (sym (left ∙ ap (λ (m : ForPeers). record m { queue = queue }) taken))
      (settled result (kept ∙ ap (λ (m : ForPeers). m.queue.frames) taken)
      (subst (λ (m : ForPeers). IfSome result (λ bytes. IsEncodingFor m.lock config peer from frames (bytes_in bytes))) taken
      (subst (λ (fs : List Frame). IfSome result (λ bytes. IsEncodingFor mid.lock config peer from fs (bytes_in bytes))) same_frames
      (subst (λ (k : Settings). IfSome result (λ bytes. IsEncodingFor mid.lock k peer from frames' (bytes_in bytes))) same_config text)))
      (subst (λ (m : ForPeers). IfNone result (queue ≡ left_out (length frames) m.queue)) taken
      (subst (λ (fs : List Frame). IfNone result (queue ≡ left_out (length fs) mid.queue)) same_frames unsent)))

-- the bytes of the next part, where nothing is put by
pub part_given : {V : Type 0} (bytes_in : V → List ℕ) (held : InstanceState) (peer : ℕ) (answer : List ℕ) (was : ForPeers) (from : Option Sequence) (lock : Option Lock) (config' : Settings)
    (frames frames' : List Frame) (old new : Option StateTransfer) (result : Option V) →
    lock ≡ was.lock → config' ≡ held.config → frames' ≡ frames → from ≡ place_in answer (put_by_for was peer).number →
    ((put_by_for was peer).frames ≡ [] → (part : Frame) × (frames ≡ part ∷ []) × IsNextPart held old part new) →
    IfSome result (λ bytes. IsEncodingFor lock config' peer from frames' (bytes_in bytes)) →
    GivesPart held peer answer (option_map bytes_in result) was old new
part_given bytes_in held peer answer was from lock config' frames frames' old new None same_lock same_config same_frames place next text = tt
part_given bytes_in held peer answer was from lock config' frames frames' old new (Some bytes) same_lock same_config same_frames place next text = λ none.
    let part = next none in
    let by_lock = subst (λ (l : Option Lock). IsEncodingFor l config' peer from frames' (bytes_in bytes)) same_lock text in
    let by_config = subst (λ (k : Settings). IsEncodingFor was.lock k peer from frames' (bytes_in bytes)) same_config by_lock in
    let of_frames = subst (λ (fs : List Frame). IsEncodingFor was.lock held.config peer from fs (bytes_in bytes)) (same_frames ∙ part.1) by_config in
    (part.0, part.2, subst (λ (f : Option Sequence). IsEncodingFor was.lock held.config peer f (part.0 ∷ []) (bytes_in bytes)) place of_frames)

-- the next part goes to a peer, whose transfer is one of all
pub part_among : (held : InstanceState) (transfers : List StateTransfer) (peer : ℕ) (old new : StateTransfer) (frame : Frame) → peer < length transfers → old ≡ get_or transfers peer old →
    IsNextPart held (Some old) frame (Some new) → IsNextPart held (slice_get transfers peer) frame (slice_get (set transfers peer new) peer)
part_among held transfers peer old new frame within is next =
    let was = slice_get_read transfers (length transfers) peer old refl within is in
    let there : peer < length (set transfers peer new) = subst (λ n. peer < n) (sym (length-set transfers peer new)) within in
    let now = slice_get_read (set transfers peer new) (length (set transfers peer new)) peer new refl there (sym (get_or-set_same transfers peer new new within)) in
    subst (λ (o : Option StateTransfer). IsNextPart held o frame (slice_get (set transfers peer new) peer)) (sym was)
    (subst (λ (n : Option StateTransfer). IsNextPart held (Some old) frame n) (sym now) next)

-- a frame alone, where it could be added
pub frame_alone : {T E : Type 0} (r : Result T E) (none new : List Frame) (frame : Frame) → is_err r ≡ false → none ≡ [] → new ≡ (if is_ok r then none ++ frame ∷ [] else none) → new ≡ frame ∷ []
frame_alone (Ok t) none new frame e empty is = is ∙ ap (λ (frames : List Frame). frames ++ frame ∷ []) empty
frame_alone (Err e) none new frame err empty is = cc
