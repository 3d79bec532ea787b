-- The account of the frames that wait for a peer, over all calls of a member.
use Rattle.std.proofs.Common.{◌≡◌, ◌≢◌, ◌∙◌, ◌⊎◌, ◌==◌, ℕ, Bool, true, false, not, List, [], ◌∷◌, ◌++◌, map, Option, None, Some, Result, Ok, Err, ap, arith, cond, length, set, inl, inr, refl, sym, subst}
use Rattle.am_peer_auth.specs.declared.seal.Lock.{Lock}
use Rattle.std.proofs.lemmas.Bool.{cases_lt, ne_eqb}
use Rattle.std.proofs.lemmas.Bool.Decides.{eqb_tells}
use Rattle.std.proofs.lemmas.List.{get_or-set_other, get_or-set_same, get_or_past, length-set, append-nil, append_assoc}
use Rattle.std.specs.List.{filter, flat_map}
use Rattle.std.specs.Prelude.{if◌then◌else◌, slice_index_or}
use Rattle.am_backend.proofs.Logged.{for_append}
use Rattle.am_backend.specs.CommitStates.{disk_of}
use Rattle.am_backend.specs.Outbound.{AreGone, IsQueued, IsSentOn, IsTaken, for_peers as for_peers_beside}
use Rattle.am_gossip.specs.declared.frame.Frame.{Frame}
use Rattle.am_gossip.specs.declared.refusals.StepError.{StepError}
use Rattle.am_instance.specs.Configs.{Settings}
use Rattle.am_instance.specs.InstanceStates.{InstanceState}
use Rattle.am_instance.specs.OneStep.{IsStep}
use Rattle.am_instance.specs.Sendings.{Sent, sent_by}
use Rattle.am_instance.specs.declared.event.Event.TheVariants as events
use Rattle.am_instance.specs.declared.reply.Outcome.{Outcome}
use Rattle.am_peers.specs.Queues.{frames_beside, frames_for}
use Rattle.am_reactor.specs.declared.service.Service.{Ghosts as Service}
use Rattle.am_daemon.specs.Accounts.{Account, AddsUp, AreLeaving, Departure, Go, Stays, and_then, put_by_at, IsAccount, IsAccountOver, Leave, NothingIsSent, waiting_for}
use Rattle.am_daemon.specs.Histories.{AreCalls, AreSentBetween, IsAnyCall}
use Rattle.am_daemon.specs.Offers.{AreKeptBack, IsPutBy, OnlyCounts, OpensLink, PutBy, gone_on, put_behind, AreGiven, AreHandedOn, ForPeers, GivesFrames, IsGiven, IsLost, IsOffered, Passes, PassesAll, is_beside, nothing_put_by, put_by_for, with_put_by}
use Rattle.am_daemon.specs.Sending.{ActsForPeers, FrameIsSentOn, IsQuiet, MayTick, NoticeIsPassedOn, Outlets, PassesOn, SaidIsPassedOn}
use Rattle.am_daemon.proofs.Histories.{given_frames, lost_frames}
use Rattle.am_daemon.proofs.Offers.{handed_waits}

-- all frames of departures, one behind the other
abbrev pub all_frames : List Departure → List Frame
all_frames departures = flat_map (λ departure. departure.frames) departures

-- those of them that are put by
abbrev pub all_put : List Departure → List Frame
all_put departures = flat_map (λ departure. departure.put_by) departures

module _ (peer : ℕ) where
  -- ---- the frames for the peer, among those for all places

  none_more : (q : ℕ × Frame) (rest : List (ℕ × Frame)) (b : Bool) → (q.0 == peer) ≡ b → frames_for peer rest ≡ [] → frames_for peer (cond (not b) (q ∷ rest) rest) ≡ []
  none_more q rest true is none = none
  none_more q rest false is none = rw is none

  -- its own are gone, once they are taken out
  own_gone : (queued : List (ℕ × Frame)) → frames_for peer (frames_beside peer queued) ≡ []
  own_gone [] = refl
  own_gone (q ∷ queued) = none_more q (frames_beside peer queued) (q.0 == peer) refl (own_gone queued)

  same_more : (place : ℕ) → place ≢ peer → (q : ℕ × Frame) (rest queued : List (ℕ × Frame)) (b : Bool) → (q.0 == place) ≡ b → frames_for peer rest ≡ frames_for peer queued
      → frames_for peer (cond (not b) (q ∷ rest) rest) ≡ frames_for peer (q ∷ queued)
  same_more place apart q rest queued true is same =
      elim (eqb_tells q.0 place) [
        | inl own ↦ let for_other : (q.0 == peer) ≡ false = ne_eqb q.0 peer (λ e. apart (sym own.1 ∙ e)) in rw for_other same
        | inr other ↦ absurd cc
      ]
  same_more place apart q rest queued false is same =
      elim (q.0 == peer) as (λ b. map (λ q. q.1) (cond b (q ∷ filter (λ q. q.0 == peer) rest) (filter (λ q. q.0 == peer) rest))
      ≡ map (λ q. q.1) (cond b (q ∷ filter (λ q. q.0 == peer) queued) (filter (λ q. q.0 == peer) queued))) [
        | true ↦ ap (λ (l : List Frame). q.1 ∷ l) same
        | false ↦ same
      ]

  -- they stay, where those for another place are taken out
  others_stay : (place : ℕ) → place ≢ peer → (queued : List (ℕ × Frame)) → frames_for peer (frames_beside place queued) ≡ frames_for peer queued
  others_stay place apart [] = refl
  others_stay place apart (q ∷ queued) = same_more place apart q (frames_beside place queued) queued (q.0 == place) refl (others_stay place apart queued)

  -- ---- frames that leave

  waits_as : (held held' : ForPeers) → held'.queue.frames ≡ held.queue.frames → waiting_for peer held' ≡ waiting_for peer held
  waits_as held held' same = ap (λ (queued : List (ℕ × Frame)). frames_for peer queued) same

  took_own : (frames : List Frame) (old new : ForPeers) (queue : Sent) → IsTaken peer frames old.queue queue → new.queue.frames ≡ queue.frames → waiting_for peer new ≡ []
  took_own frames old new queue out same =
      ap (λ (queued : List (ℕ × Frame)). frames_for peer queued) (same ∙ ap (λ (s : Sent). s.frames) out.rest) ∙ own_gone old.queue.frames

  took_others : (place : ℕ) (frames : List Frame) (old new : ForPeers) (queue : Sent) → place ≢ peer → IsTaken place frames old.queue queue → new.queue.frames ≡ queue.frames
      → waiting_for peer new ≡ waiting_for peer old
  took_others place frames old new queue apart out same =
      ap (λ (queued : List (ℕ × Frame)). frames_for peer queued) (same ∙ ap (λ (s : Sent). s.frames) out.rest) ∙ others_stay place apart old.queue.frames

  gone_none : (was is : Sent) → AreGone was is → is.frames ≡ []
  gone_none was is (inl none) = ap (λ (s : Sent). s.frames) none.1 ∙ none.0
  gone_none was is (inr all) = ap (λ (s : Sent). s.frames) all

  -- ---- what is put by

  at_put : (held : ForPeers) (it : PutBy) → (put_by_for (with_put_by peer it held) peer ≡ it)
      ⊎ ((put_by_for held peer ≡ nothing_put_by) × (put_by_for (with_put_by peer it held) peer ≡ nothing_put_by))
  at_put held it =
      elim (cases_lt peer (length held.put_by)) [
        | inl within ↦ inl (get_or-set_same held.put_by peer it nothing_put_by within)
        | inr past ↦ inr (
          get_or_past held.put_by peer nothing_put_by past,
          get_or_past (set held.put_by peer it) peer nothing_put_by (omega (arith, past, length-set held.put_by peer it)),
        )
      ]

  at_other : (to : ℕ) (held : ForPeers) (it : PutBy) → to ≢ peer → put_by_for (with_put_by to it held) peer ≡ put_by_for held peer
  at_other to held it apart = get_or-set_other held.put_by to peer it nothing_put_by (λ e. apart (sym e))

  -- frames are put by behind the others, or none is
  abbrev Puts : List Frame → ForPeers → ForPeers → Type 0
  Puts frames old new = (put_by_at peer new ≡ put_by_at peer old) ⊎ (put_by_at peer new ≡ put_by_at peer old ++ frames)

  none_put : (old new : ForPeers) → new.put_by ≡ old.put_by → put_by_at peer new ≡ put_by_at peer old
  none_put old new same = ap (λ (all : List PutBy). (slice_index_or all peer nothing_put_by).frames) same

  put_own : (frames : List Frame) (old new : ForPeers) → new ≡ with_put_by peer (put_behind frames (put_by_for old peer)) old → Puts frames old new
  put_own frames old new is =
      elim (at_put old (put_behind frames (put_by_for old peer))) [
        | inl there ↦ inr (ap (put_by_at peer) is ∙ ap (λ (it : PutBy). it.frames) there)
        | inr past ↦ inl (ap (put_by_at peer) is ∙ ap (λ (it : PutBy). it.frames) (past.1 ∙ sym past.0))
      ]

  puts : (opens : Bool) (frames : List Frame) (old new : ForPeers) → IsPutBy peer frames opens old new → Puts frames old new
  puts true frames old new put = put_own frames old new put.1
  puts false frames old new (inl same) = inl (ap (put_by_at peer) same)
  puts false frames old new (inr put) = put_own frames old new put.1

  puts_other : (opens : Bool) (to : ℕ) (frames : List Frame) (old new : ForPeers) → to ≢ peer → IsPutBy to frames opens old new → put_by_at peer new ≡ put_by_at peer old
  puts_other true to frames old new apart put = ap (put_by_at peer) put.1 ∙ ap (λ (it : PutBy). it.frames) (at_other to old (put_behind frames (put_by_for old to)) apart)
  puts_other false to frames old new apart (inl same) = ap (put_by_at peer) same
  puts_other false to frames old new apart (inr put) = ap (put_by_at peer) put.1 ∙ ap (λ (it : PutBy). it.frames) (at_other to old (put_behind frames (put_by_for old to)) apart)

  kept_puts : (lock : Option Lock) (frames : List Frame) (old new : ForPeers) → AreKeptBack lock peer frames old new → Puts frames old new
  kept_puts None frames old new counted = inl (ap (put_by_at peer) counted)
  kept_puts (Some lock) frames old new put = puts false frames old new put

  kept_other : (lock : Option Lock) (to : ℕ) (frames : List Frame) (old new : ForPeers) → to ≢ peer → AreKeptBack lock to frames old new → put_by_at peer new ≡ put_by_at peer old
  kept_other None to frames old new apart counted = ap (put_by_at peer) counted
  kept_other (Some lock) to frames old new apart put = puts_other false to frames old new apart put

  handed_puts : (frames : List Frame) (old new : ForPeers) → AreHandedOn peer frames old new → Puts frames old new
  handed_puts frames old new (inl told) = inl (ap (put_by_at peer) told.1)
  handed_puts frames old new (inr kept) = kept_puts old.lock frames old new kept.1

  handed_other : (to : ℕ) (frames : List Frame) (old new : ForPeers) → to ≢ peer → AreHandedOn to frames old new → put_by_at peer new ≡ put_by_at peer old
  handed_other to frames old new apart (inl told) = ap (put_by_at peer) told.1
  handed_other to frames old new apart (inr kept) = kept_other old.lock to frames old new apart kept.1

  given_puts : (lock : Option Lock) (frames : List Frame) (bytes : List ℕ) (old new : ForPeers) → AreGiven lock peer frames bytes old new → Puts frames old new
  given_puts None frames bytes old new given = inl (ap (put_by_at peer) given.1.0)
  given_puts (Some lock) frames bytes old new given = puts true frames old new given.1

  given_other : (lock : Option Lock) (to : ℕ) (frames : List Frame) (bytes : List ℕ) (old new : ForPeers) → to ≢ peer → AreGiven lock to frames bytes old new
      → put_by_at peer new ≡ put_by_at peer old
  given_other None to frames bytes old new apart given = ap (put_by_at peer) given.1.0
  given_other (Some lock) to frames bytes old new apart given = puts_other true to frames old new apart given.1

  -- ---- frames that leave, and are put by

  -- those that leave waited, and none is left
  left_none : (frames : List Frame) (old new : ForPeers) → AreLeaving peer frames old new → (frames ≡ waiting_for peer old) × (waiting_for peer new ≡ [])
  left_none frames old new (inl (queue, out, inl handed)) = (out.all, took_own frames old new queue out (handed_waits peer frames (record old { queue = queue }) new handed))
  left_none frames old new (inl (queue, out, inr (bytes, given))) =
      (out.all, took_own frames old new queue out (given_frames old.lock peer frames bytes (record old { queue = queue }) new given))
  left_none frames old new (inr (queue, is, gone, same)) =
      (is, ap (λ (held : ForPeers). frames_for peer held.queue.frames) same ∙ ap (λ (queued : List (ℕ × Frame)). frames_for peer queued) (gone_none old.queue queue gone))

  stays_still : (held : ForPeers) → Stays peer held held
  stays_still held = (refl, refl)

  stays_on : (old mid new : ForPeers) → Stays peer old mid → Stays peer mid new → Stays peer old new
  stays_on old mid new first second = (second.0 ∙ first.0, second.1 ∙ first.1)

  -- what waited is what left and what waits on
  left_is : (departures : List Departure) (old new : ForPeers) → Leave peer departures old new → waiting_for peer old ≡ all_frames departures ++ waiting_for peer new
  left_is [] old new same = sym same.0
  left_is (departure ∷ rest) old new (before, after, same, all, later) =
      let left = left_none departure.frames before after all.0 in
      let none : all_frames rest ++ waiting_for peer new ≡ [] = sym (left_is rest after new later) ∙ left.1 in
      sym same.0 ∙ sym left.0 ∙ sym (append-nil departure.frames) ∙ ap (λ (l : List Frame). departure.frames ++ l) (sym none)
      ∙ sym (append_assoc departure.frames (all_frames rest) (waiting_for peer new))

  -- what was put by before and since is what is put by
  put_is : (departures : List Departure) (old new : ForPeers) → Leave peer departures old new → put_by_at peer old ++ all_put departures ≡ put_by_at peer new
  put_is [] old new same = append-nil (put_by_at peer old) ∙ sym same.1
  put_is (departure ∷ rest) old new (before, after, same, all, later) =
      sym (append_assoc (put_by_at peer old) departure.put_by (all_put rest))
      ∙ ap (λ (l : List Frame). l ++ all_put rest) (ap (λ (l : List Frame). l ++ departure.put_by) (sym same.1) ∙ sym all.2)
      ∙ put_is rest after new later

  leave_from : (departures : List Departure) (old mid new : ForPeers) → Stays peer old mid → Leave peer departures mid new → Leave peer departures old new
  leave_from [] old mid new same stay = stays_on old mid new same stay
  leave_from (departure ∷ rest) old mid new same (before, after, is, all, later) = (before, after, stays_on old mid before same is, all, later)

  leave_on : (first second : List Departure) (old mid new : ForPeers) → Leave peer first old mid → Leave peer second mid new → Leave peer (first ++ second) old new
  leave_on [] second old mid new same later = leave_from second old mid new same later
  leave_on (departure ∷ rest) second old mid new (before, after, is, all, more) later = (before, after, is, all, leave_on rest second after mid new more later)

  -- some leave, or none
  abbrev SomeLeave : ForPeers → ForPeers → Type 0
  SomeLeave old new = (departures : List Departure) × Leave peer departures old new

  all_at_once : (frames : List Frame) (old new : ForPeers) → AreLeaving peer frames old new → Puts frames old new → SomeLeave old new
  all_at_once frames old new leaving (inl same) =
      (record { frames = frames; put_by = [] } ∷ [], (old, new, stays_still old, (leaving, inl refl, same ∙ sym (append-nil (put_by_at peer old))), stays_still new))
  all_at_once frames old new leaving (inr more) =
      (record { frames = frames; put_by = frames } ∷ [], (old, new, stays_still old, (leaving, inr refl, more), stays_still new))

  passes : (old new : ForPeers) → Passes old new → SomeLeave old new
  passes old new (inl (queue, gone, is)) = all_at_once (waiting_for peer old) old new (inr (queue, refl, gone, is)) (inl (ap (put_by_at peer) is))
  passes old new (inr (place, frames, queue, out, handed)) =
      elim (eqb_tells place peer) [
        | inl own ↦
            let to_own : AreHandedOn peer frames (record old { queue = queue }) new = subst (λ p. AreHandedOn p frames (record old { queue = queue }) new) own.1 handed in
            all_at_once frames old new (inl (queue, subst (λ p. IsTaken p frames old.queue queue) own.1 out, inl to_own)) (handed_puts frames (record old { queue = queue }) new to_own)
        | inr other ↦ (
          [],
          (
            took_others place frames old new queue other.1 out (handed_waits place frames (record old { queue = queue }) new handed),
            handed_other place frames (record old { queue = queue }) new other.1 handed,
          ),
        )
      ]

  passes_all : (between : List ForPeers) (old new : ForPeers) → PassesAll between old new → SomeLeave old new
  passes_all [] old new same = ([], (ap (waiting_for peer) same, ap (put_by_at peer) same))
  passes_all (mid ∷ between) old new all =
      let before = passes_all between old mid all.0 in
      let last = passes mid new all.1 in
      (before.0 ++ last.0, leave_on before.0 last.0 old mid new before.1 last.1)

  gives_frames : (to : ℕ) (bytes : List ℕ) (old new : ForPeers) → GivesFrames to bytes old new → SomeLeave old new
  gives_frames to bytes old new (place, frames, queue, out, (there, apart, given)) =
      elim (eqb_tells place peer) [
        | inl own ↦
            let to_own : AreGiven old.lock peer frames bytes (record old { queue = queue }) new =
            subst (λ p. AreGiven old.lock p frames bytes (record old { queue = queue }) new) (sym there ∙ own.1) given in
            all_at_once frames old new (inl (queue, subst (λ p. IsTaken p frames old.queue queue) own.1 out, inr (bytes, to_own)))
            (given_puts old.lock frames bytes (record old { queue = queue }) new to_own)
        | inr other ↦ (
          [],
          (
            took_others place frames old new queue other.1 out (given_frames old.lock to frames bytes (record old { queue = queue }) new given),
            given_other old.lock to frames bytes (record old { queue = queue }) new (λ e. other.1 (there ∙ e)) given,
          ),
        )
      ]

  opens_link : (to : ℕ) (bytes : List ℕ) (old new : ForPeers) → OpensLink to bytes old new → Stays peer old new
  opens_link to bytes old new opens = (
    ap (waiting_for peer) opens.opened,
    elim (eqb_tells to peer) [
      | inl own ↦
          let is : new ≡ with_put_by peer (record (put_by_for old peer) { is_open = true }) old =
          subst (λ p. new ≡ with_put_by p (record (put_by_for old p) { is_open = true }) old) own.1 opens.opened in
          elim (at_put old (record (put_by_for old peer) { is_open = true })) [
            | inl there ↦ ap (put_by_at peer) is ∙ ap (λ (it : PutBy). it.frames) there
            | inr past ↦ ap (put_by_at peer) is ∙ ap (λ (it : PutBy). it.frames) (past.1 ∙ sym past.0)
          ]
      | inr other ↦ ap (put_by_at peer) opens.opened ∙ ap (λ (it : PutBy). it.frames) (at_other to old (record (put_by_for old to) { is_open = true }) other.1)
    ],
  )

  offers : (to : ℕ) (bytes : List ℕ) (old new : ForPeers) → IsOffered to bytes old new → SomeLeave old new
  offers to bytes old new (mid, none, inl frames) =
      let before = passes_all none.0 old mid none.1 in
      let last = gives_frames to bytes mid new frames in
      (before.0 ++ last.0, leave_on before.0 last.0 old mid new before.1 last.1)
  offers to bytes old new (mid, none, inr opens) =
      let before = passes_all none.0 old mid none.1 in
      (before.0 ++ [], leave_on before.0 [] old mid new before.1 (opens_link to bytes mid new opens))

  -- ---- what is put by goes

  -- it does, or all stays
  abbrev SomeGo : ForPeers → ForPeers → Type 0
  SomeGo old new = (went : List Frame) × Go peer went old new

  -- nothing is put by any more
  emptied : (it : PutBy) (old new : ForPeers) → it.frames ≡ [] → new.put_by ≡ (with_put_by peer it old).put_by → put_by_at peer new ≡ []
  emptied it old new none is =
      elim (at_put old it) [
        | inl there ↦ none_put (with_put_by peer it old) new is ∙ ap (λ (p : PutBy). p.frames) there ∙ none
        | inr past ↦ none_put (with_put_by peer it old) new is ∙ ap (λ (p : PutBy). p.frames) past.1
      ]

  other_stays : (to : ℕ) (it : PutBy) (old new : ForPeers) → to ≢ peer → new.put_by ≡ (with_put_by to it old).put_by → put_by_at peer new ≡ put_by_at peer old
  other_stays to it old new apart is = none_put (with_put_by to it old) new is ∙ ap (λ (p : PutBy). p.frames) (at_other to old it apart)

  gives : (config : Settings) (to : ℕ) (answer : List ℕ) (bytes : Option (List ℕ)) (old new : ForPeers) → IsGiven config to answer bytes old new → SomeGo old new
  gives config to answer None old new (queue, lost, is) =
      let waits : waiting_for peer new ≡ waiting_for peer old =
      ap (waiting_for peer) is ∙ ap (λ (queued : List (ℕ × Frame)). frames_for peer queued) (lost_frames (put_by_for old to).frames old.queue queue lost) in
      elim (eqb_tells to peer) [
        | inl own ↦ (
          put_by_at peer old,
          inr (
            refl,
            emptied nothing_put_by old new refl
                (ap (λ (held : ForPeers). held.put_by) is ∙ ap (λ (p : ℕ). (with_put_by p nothing_put_by old).put_by) own.1),
            waits,
            inl (config, answer, None, subst (λ p. IsGiven config p answer None old new) own.1 (queue, lost, is)),
          ),
        )
        | inr other ↦ ([], inl (refl, (waits, other_stays to nothing_put_by old new other.1 (ap (λ (held : ForPeers). held.put_by) is))))
      ]
  gives config to answer (Some bytes) old new (frames, next, text, counts) =
      elim (eqb_tells to peer) [
        | inl own ↦ (
          put_by_at peer old,
          inr (
            refl,
            emptied (gone_on (length frames) (put_by_for old to)) old new refl
                (ap (λ (held : ForPeers). held.put_by) counts.0 ∙ ap (λ (p : ℕ). (with_put_by p (gone_on (length frames) (put_by_for old to)) old).put_by) own.1),
            waits_as old new counts.1,
            inl (config, answer, Some bytes, subst (λ p. IsGiven config p answer (Some bytes) old new) own.1 (frames, next, text, counts)),
          ),
        )
        | inr other ↦ (
          [],
          inl (
            refl,
            (
              waits_as old new counts.1,
              other_stays to (gone_on (length frames) (put_by_for old to)) old new other.1 (ap (λ (held : ForPeers). held.put_by) counts.0),
            ),
          ),
        )
      ]

  lost_by : (b : Bool) (to : ℕ) (old new : ForPeers) → is_beside old to ≡ b → new ≡ (if b then old else with_put_by to nothing_put_by old) → SomeGo old new
  lost_by true to old new beside is = ([], inl (refl, (ap (waiting_for peer) is, ap (put_by_at peer) is)))
  lost_by false to old new beside is =
      let lost : IsLost to old new = rw beside is in
      elim (eqb_tells to peer) [
        | inl own ↦ (
          put_by_at peer old,
          inr (
            refl,
            emptied nothing_put_by old new refl
                (ap (λ (held : ForPeers). held.put_by) is ∙ ap (λ (p : ℕ). (with_put_by p nothing_put_by old).put_by) own.1),
            ap (waiting_for peer) is,
            inr (subst (λ p. IsLost p old new) own.1 lost),
          ),
        )
        | inr other ↦ ([], inl (refl, (ap (waiting_for peer) is, other_stays to nothing_put_by old new other.1 (ap (λ (held : ForPeers). held.put_by) is))))
      ]

  loses : (to : ℕ) (old new : ForPeers) → IsLost to old new → SomeGo old new
  loses to old new lost = lost_by (is_beside old to) to old new refl lost

  -- ---- the account of a call

  -- there is one
  abbrev pub HasAccount : Option ℕ → InstanceState → ForPeers → InstanceState → ForPeers → Type 0
  HasAccount disk old was new is = (account : Account) × IsAccount peer disk account old was new is

  -- nothing comes, and some leave
  none_come : (disk : Option ℕ) (old new : InstanceState) (was is : ForPeers) → NothingIsSent old new → SomeLeave was is → HasAccount disk old was new is
  none_come disk old new was is none (departures, leave) = (
    record { came = []; left = all_frames departures; put = all_put departures; went = [] },
    record {
      mid = was;
      last = is;
      departures = departures;
      come = inl (refl, none);
      behind = sym (append-nil (waiting_for peer was));
      kept = refl;
      leave = leave;
      go = inl (refl, stays_still is);
      left = refl;
      put = refl;
    },
  )

  -- what is put by goes
  only_go : (disk : Option ℕ) (old new : InstanceState) (was is : ForPeers) → NothingIsSent old new → SomeGo was is → HasAccount disk old was new is
  only_go disk old new was is none (went, go) = (
    record { came = []; left = []; put = []; went = went },
    record {
      mid = was;
      last = was;
      departures = [];
      come = inl (refl, none);
      behind = sym (append-nil (waiting_for peer was));
      kept = refl;
      leave = stays_still was;
      go = go;
      left = refl;
      put = refl;
    },
  )

  unchanged : (old new : InstanceState) → new ≡ old → NothingIsSent old new
  unchanged old new same = inr (old, inl refl, inl same)

  -- frames come, and what else waits or is counted doesn't concern the peer
  some_come : (disk : Option ℕ) (sent : Sent) (old new : InstanceState) (was is : ForPeers) (before after : Sent) → AreSentBetween sent old new → before.frames ≡ was.queue.frames
      → is.queue.frames ≡ after.frames → put_by_at peer is ≡ put_by_at peer was → IsQueued disk sent before after → HasAccount disk old was new is
  some_come disk sent old new was is before after between first last kept (inl more) = (
    record { came = frames_for peer (for_peers_beside disk sent.frames); left = []; put = []; went = [] },
    record {
      mid = is;
      last = is;
      departures = [];
      come = inr (sent, between, inl refl);
      behind = ap (λ (queued : List (ℕ × Frame)). frames_for peer queued) (last ∙ ap (λ (s : Sent). s.frames) more) ∙ for_append peer before.frames (for_peers_beside disk sent.frames)
          ∙ ap (λ (queued : List (ℕ × Frame)). frames_for peer queued ++ frames_for peer (for_peers_beside disk sent.frames)) first;
      kept = kept;
      leave = stays_still is;
      go = inl (refl, stays_still is);
      left = refl;
      put = refl;
    },
  )
  some_come disk sent old new was is before after between first last kept (inr none) = (
    record { came = []; left = []; put = []; went = [] },
    record {
      mid = was;
      last = is;
      departures = [];
      come = inr (sent, between, inr (refl, last ∙ ap (λ (s : Sent). s.frames) none ∙ first));
      behind = sym (append-nil (waiting_for peer was));
      kept = refl;
      leave = (ap (λ (queued : List (ℕ × Frame)). frames_for peer queued) (last ∙ ap (λ (s : Sent). s.frames) none ∙ first), kept);
      go = inl (refl, stays_still is);
      left = refl;
      put = refl;
    },
  )

  frame_account : (disk : Option ℕ) (old ticked new : InstanceState) (came : ℕ × Frame) (now : ℕ) (answer : Result Outcome StepError) (was is before after : ForPeers) → MayTick old ticked
      → IsStep ticked (events.Frame came.0 came.1) now answer new → before.queue.frames ≡ was.queue.frames → is.queue.frames ≡ after.queue.frames
      → put_by_at peer is ≡ put_by_at peer was → IsSentOn disk answer before.queue after.queue → HasAccount disk old was new is
  frame_account disk old ticked new came now (Ok outcome) was is before after tick step first last kept sent =
      some_come disk (sent_by outcome) old new was is before.queue after.queue (inr (inr (ticked, came, now, outcome, tick, step, refl))) first last kept sent
  frame_account disk old ticked new came now (Err error) was is before after tick step first last kept same =
      none_come disk old new was is (inr (ticked, tick, inr (came, now, error, step))) ([], (waits_as was is (last ∙ ap (λ (s : Sent). s.frames) same ∙ first), kept))

  woken_by : (came : Option (ℕ × Frame)) (disk : Option ℕ) (old ticked new : InstanceState) (was is before after : ForPeers) → MayTick old ticked
      → OnlyCounts was before → OnlyCounts after is → FrameIsSentOn came disk ticked before new after → HasAccount disk old was new is
  woken_by None disk old ticked new was is before after tick first last same = none_come disk old new was is (inr (ticked, tick, inl same.0)) (
    [],
    (
      waits_as was is (last.1 ∙ ap (λ (held : ForPeers). held.queue.frames) same.1 ∙ first.1),
      ap (put_by_at peer) last.0 ∙ ap (put_by_at peer) same.1 ∙ ap (put_by_at peer) first.0,
    ),
  )
  woken_by (Some came) disk old ticked new was is before after tick first last sent =
      frame_account disk old ticked new came sent.0 sent.1 was is before after tick sent.2 first.1 last.1
      (ap (put_by_at peer) last.0 ∙ ap (put_by_at peer) sent.4 ∙ ap (put_by_at peer) first.0) sent.3

  pub acts_account : (disk : Option ℕ) (old new : InstanceState) (was is : ForPeers) → ActsForPeers disk old was new is → HasAccount disk old was new is
  acts_account disk old new was is (inl stays) = none_come disk old new was is (unchanged old new stays.0) ([], (waits_as was is stays.1.1, ap (put_by_at peer) stays.1.0))
  acts_account disk old new was is (inr (inl rest)) = none_come disk old new was is (unchanged old new rest.0) (passes_all rest.1.0.0 was is rest.1.0.1)
  acts_account disk old new was is (inr (inr woken)) =
      woken_by woken.came disk old woken.ticked new was is woken.before woken.after woken.tick woken.waits woken.stays woken.sent

  -- what is for the peer, by a member's outlets
  abbrev Outlet : Outlets → ForPeers → Type 0
  Outlet outlets held = (outlets.queue ≡ held.queue) × (outlets.put_by ≡ held.put_by)

  does_by : (old new : InstanceState) (was is : ForPeers) (from into : Outlets) → Outlet from was → Outlet into is
      → IsQuiet old from new into ⊎ (SaidIsPassedOn old from new into ⊎ NoticeIsPassedOn old from new into) → HasAccount (disk_of from.store.commit_state) old was new is
  does_by old new was is from into first last (inl quiet) = none_come (disk_of from.store.commit_state) old new was is (inl quiet.same) (
    [],
    (
      waits_as was is (ap (λ (s : Sent). s.frames) (sym last.0 ∙ ap (λ (o : Outlets). o.queue) quiet.stays ∙ first.0)),
      none_put was is (sym last.1 ∙ ap (λ (o : Outlets). o.put_by) quiet.stays ∙ first.1),
    ),
  )
  does_by old new was is from into first last (inr (inl said)) = some_come (disk_of from.store.commit_state) said.answer.effects.outbox old new was is from.queue into.queue
      (inl (said.name, said.bits, said.now, said.said, said.answer, said.exchanged, refl)) (ap (λ (s : Sent). s.frames) first.0) (ap (λ (s : Sent). s.frames) (sym last.0))
      (none_put was is (sym last.1 ∙ said.passed.put_by ∙ first.1)) said.passed.queued
  does_by old new was is from into first last (inr (inr notice)) = some_come (disk_of from.store.commit_state) notice.answer.outbox old new was is from.queue into.queue
      (inr (inl (notice.now, notice.notice, notice.answer, notice.noticed, refl))) (ap (λ (s : Sent). s.frames) first.0) (ap (λ (s : Sent). s.frames) (sym last.0))
      (none_put was is (sym last.1 ∙ notice.passed.put_by ∙ first.1)) notice.passed.queued

  pub does_account : (old new : InstanceState) (was is : ForPeers) (from into : Outlets) → Outlet from was → Outlet into is → PassesOn old from new into
      → HasAccount (disk_of from.store.commit_state) old was new is
  does_account old new was is from into first last passed = does_by old new was is from into first last passed.by

  pub loses_account : (disk : Option ℕ) (to : ℕ) (old new : InstanceState) (was is : ForPeers) → new ≡ old → IsLost to was is → HasAccount disk old was new is
  loses_account disk to old new was is same lost = only_go disk old new was is (unchanged old new same) (loses to was is lost)

  pub gives_account : (disk : Option ℕ) (config : Settings) (to : ℕ) (answer : List ℕ) (bytes : Option (List ℕ)) (old new : InstanceState) (was is : ForPeers) → new ≡ old
      → IsGiven config to answer bytes was is → HasAccount disk old was new is
  gives_account disk config to answer bytes old new was is same given = only_go disk old new was is (unchanged old new same) (gives config to answer bytes was is given)

  pub offers_account : (disk : Option ℕ) (to : ℕ) (bytes : List ℕ) (old new : InstanceState) (was is : ForPeers) → new ≡ old → IsOffered to bytes was is → HasAccount disk old was new is
  offers_account disk to bytes old new was is same offered = none_come disk old new was is (unchanged old new same) (offers to bytes was is offered)

  pub stays_account : (disk : Option ℕ) (old new : InstanceState) (was is : ForPeers) → new ≡ old → is ≡ was → HasAccount disk old was new is
  stays_account disk old new was is same stay = none_come disk old new was is (unchanged old new same) ([], (ap (waiting_for peer) stay, ap (put_by_at peer) stay))

  -- ---- the account of calls

  goes_up : (went : List Frame) (last is : ForPeers) → Go peer went last is → put_by_at peer last ≡ went ++ put_by_at peer is
  goes_up went last is (inl (none, stays)) = sym stays.1 ∙ ap (λ (l : List Frame). l ++ put_by_at peer is) (sym none)
  goes_up went last is (inr (all, empty, waits, why)) = sym all ∙ sym (append-nil went) ∙ ap (λ (l : List Frame). went ++ l) (sym empty)

  gone_waits : (went : List Frame) (last is : ForPeers) → Go peer went last is → waiting_for peer is ≡ waiting_for peer last
  gone_waits went last is (inl (none, stays)) = stays.0
  gone_waits went last is (inr (all, empty, waits, why)) = waits

  -- that of a call adds up
  adds_up : (disk : Option ℕ) (account : Account) (old new : InstanceState) (was is : ForPeers) → IsAccount peer disk account old was new is → AddsUp peer account was is
  adds_up disk account old new was is it = (
    sym it.behind ∙ left_is it.departures it.mid it.last it.leave ∙ ap (λ (l : List Frame). l ++ waiting_for peer it.last) (sym it.left)
        ∙ ap (λ (l : List Frame). account.left ++ l) (sym (gone_waits account.went it.last is it.go)),
    ap (λ (l : List Frame). l ++ account.put) (sym it.kept) ∙ ap (λ (l : List Frame). put_by_at peer it.mid ++ l) it.put ∙ put_is it.departures it.mid it.last it.leave
        ∙ goes_up account.went it.last is it.go,
  )

  -- two that add up do so together
  seam : (before mid after came others gone later : List Frame) → before ++ came ≡ gone ++ mid → mid ++ others ≡ later ++ after → before ++ (came ++ others) ≡ (gone ++ later) ++ after
  seam before mid after came others gone later here there =
      sym (append_assoc before came others) ∙ ap (λ (l : List Frame). l ++ others) here ∙ append_assoc gone mid others
      ∙ ap (λ (l : List Frame). gone ++ l) there ∙ sym (append_assoc gone later after)

  both_add_up : (one other : Account) (was mid is : ForPeers) → AddsUp peer one was mid → AddsUp peer other mid is → AddsUp peer (and_then one other) was is
  both_add_up one other was mid is first second = (
    seam (waiting_for peer was) (waiting_for peer mid) (waiting_for peer is) one.came other.came one.left other.left first.0 second.0,
    seam (put_by_at peer was) (put_by_at peer mid) (put_by_at peer is) one.put other.put one.went other.went first.1 second.1,
  )

  module _ {S T : Type 0} (law : Service S T) (instance_of : S → InstanceState) (held_of : S → ForPeers) (disk_of_state : S → Option ℕ) where
    -- a call has an account
    abbrev pub Has : S → S → Type 0
    Has s s' = HasAccount (disk_of_state s) (instance_of s) (held_of s) (instance_of s') (held_of s')

    calls_account : ((s s' : S) → IsAnyCall law s s' → Has s s') → (first : S) (between : List S) (last : S) → AreCalls law first between last
        → (account : Account) × IsAccountOver instance_of held_of disk_of_state peer account first between last
    calls_account each first [] last call = each first last call
    calls_account each first (next ∷ rest) last calls =
        let one = each first next calls.0 in
        let others = calls_account each next rest last calls.1 in
        (and_then one.0 others.0, (one.0, others.0, refl, one.1, others.1))

    adds_up_over : (account : Account) (first : S) (between : List S) (last : S) → IsAccountOver instance_of held_of disk_of_state peer account first between last
        → AddsUp peer account (held_of first) (held_of last)
    adds_up_over account first [] last it = adds_up (disk_of_state first) account (instance_of first) (instance_of last) (held_of first) (held_of last) it
    adds_up_over account first (next ∷ rest) last (one, other, is, here, there) =
        subst (λ (a : Account). AddsUp peer a (held_of first) (held_of last)) (sym is)
        (both_add_up one other (held_of first) (held_of next) (held_of last)
        (adds_up (disk_of_state first) one (instance_of first) (instance_of next) (held_of first) (held_of next) here) (adds_up_over other next rest last there))

    pub over_calls : ((s s' : S) → IsAnyCall law s s' → Has s s') → (first : S) (between : List S) (last : S) → AreCalls law first between last
        → (account : Account) × IsAccountOver instance_of held_of disk_of_state peer account first between last × AddsUp peer account (held_of first) (held_of last)
    over_calls each first between last calls =
        let over = calls_account each first between last calls in
        (over.0, over.1, adds_up_over over.0 first between last over.1)
