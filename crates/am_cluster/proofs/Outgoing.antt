-- Frames that a step sent are sound, and go to peers; one that collects sends none.
use Rattle.std.proofs.Common.{◌≡◌, ℕ, ◌≤◌, ◌+◌, List, [], ◌∷◌, ◌++◌, Bool, true, false, zero, suc, length, ap, refl, subst, arith}
use Rattle.std.specs.Prelude.{All, None, Ok, nat_lt, ◌&&◌}
use Rattle.std.specs.List.{range_with_len}
use Rattle.std.proofs.lemmas.Bool.{lt-ltb}
use Rattle.std.proofs.lemmas.List.Elements.{All-nil, All-cons, All-head, All-tail, All-append, All-filter, filter_passes}
use Rattle.am_wire.specs.declared.unknown.Unknown.{Unknown}
use Rattle.am_wire.specs.Unknown.{StaysWhole}
use Rattle.am_silence.specs.Mesh.{without_unknown}
use Rattle.am_nflog.specs.Mesh.{without_unknown as entry_without_unknown}
use Rattle.am_gossip.specs.declared.frame.Frame.{Frame}
use Rattle.am_gossip.specs.declared.frame.Frame.TheVariants as frames
use Rattle.am_instance.specs.declared.event.Event.{Event}
use Rattle.am_instance.specs.declared.event.Event.TheVariants as events
use Rattle.am_instance.specs.declared.reply.Outcome.{Outcome}
use Rattle.am_instance.specs.Changes.{changed_of}
use Rattle.am_instance.specs.Configs.{Settings, is_other, is_peer, peers_but}
use Rattle.am_instance.specs.Deliveries.{Delivery, IsWhole, first_fault, parts_of, rows_in}
use Rattle.am_instance.specs.OneStep.{IsStep}
use Rattle.am_instance.specs.Sendings.{Sends, addressed, delta_of, deltas_to, nothing_sent, sent_by, whole_state}
use Rattle.am_instance.specs.InstanceStates.{InstanceState, HoldsWhole, entry_at, silence_at}
use Rattle.am_instance.specs.Steps.{collects, delivers, knows_peer, last_wanted, made_here, origin, peer_of}
use Rattle.am_instance.proofs.Whole.{delivered_whole}
use Rattle.am_cluster.specs.Contents.{IsValue}
use Rattle.am_cluster.proofs.RoundTrip.{delta_readable, delta_rows, whole_readable, whole_sound}
use Rattle.am_cluster.specs.Recorded.{AreValues}
use Rattle.am_cluster.proofs.Making.{frame_makes_nothing}
use Rattle.am_cluster.proofs.Sendings.{Delta_holds, IfFits, all_deltas, all_sent, changed_values, last_holds}

-- ---- no row is at fault
abbrev IsSound : Unknown → ℕ × Frame → Type 0
IsSound unknown frame = first_fault (rows_in unknown (parts_of frame.1)) ≡ None

deltas_sound : (unknown : Unknown) (ds : List Delivery) → All IsValue ds → All (IsWhole unknown) ds → All (Delta_holds (IsSound unknown)) ds
deltas_sound unknown [] values whole = All-nil (Delta_holds (IsSound unknown))
deltas_sound unknown (d ∷ ds) values whole =
    All-cons (Delta_holds (IsSound unknown)) d ds
    (λ place fitting. ap first_fault (delta_rows unknown d (delta_readable unknown d (All-head IsValue d ds values) (All-head (IsWhole unknown) d ds whole) fitting)))
    (deltas_sound unknown ds (All-tail IsValue d ds values) (All-tail (IsWhole unknown) d ds whole))

-- what a step leaves is whole by the mode that it began with
pub left_whole : (old new : InstanceState) → new.config ≡ old.config → HoldsWhole new →
    All (StaysWhole without_unknown old.config.unknown) new.silences × All (StaysWhole entry_without_unknown old.config.unknown) new.log
left_whole old new same whole = (
  subst (λ (config : Settings). All (StaysWhole without_unknown config.unknown) new.silences) same whole.silences,
  subst (λ (config : Settings). All (StaysWhole entry_without_unknown config.unknown) new.log) same whole.log,
)

pub all_sound : (old new : InstanceState) (event : Event) (now : ℕ) (outcome : Outcome) → IsStep old event now (Ok outcome) new → AreValues old.config.unknown event outcome new → HoldsWhole old →
    All (IsSound old.config.unknown) outcome.frames.items
all_sound old new event now outcome step are whole =
    let unknown : Unknown = old.config.unknown in
    let left = left_whole old new step.config (step.kept whole) in
    let places : List ℕ = peers_but old.config (origin old.config event) in
    let ds : List Delivery = delivers unknown event outcome.made in
    let changing : List Delivery = changed_of now (silence_at old.silences) (entry_at old.log) ds in
    let values : All IsValue changing = changed_values IsValue now (silence_at old.silences) (entry_at old.log) ds are.delivered in
    let all_whole : All (IsWhole unknown) changing =
    changed_values (IsWhole unknown) now (silence_at old.silences) (entry_at old.log) ds (delivered_whole unknown old event now outcome.reply outcome.made whole.silences step.reply) in
    all_sent (IsSound unknown) (deltas_to places changing ++ last_wanted event new) nothing_sent (sent_by outcome)
    (All-append (IfFits (IsSound unknown)) (deltas_to places changing) (last_wanted event new)
    (all_deltas (IsSound unknown) places changing (deltas_sound unknown changing values all_whole))
    (last_holds (IsSound unknown) event new
    (λ place fitting. let both = whole_readable unknown new.silences new.log are.silences are.log left.0 left.1 fitting in whole_sound unknown new.silences new.log both.0 both.1)
    (λ place fitting. let both = whole_readable unknown new.silences new.log are.silences are.log left.0 left.1 fitting in whole_sound unknown new.silences new.log both.0 both.1)))
    (All-nil (IsSound unknown)) step.sent

-- ---- each goes to a peer
both_hold : (one two three : Bool) → one ≡ true → (two && three) ≡ true → (one && two) ≡ true
both_hold true true three is are = refl
both_hold true false three is are = absurd cc
both_hold false two three is are = absurd cc

all_below : (bound first count : ℕ) → first + count ≤ bound → All (λ place. nat_lt place bound ≡ true) (range_with_len first count)
all_below bound first zero small = All-nil (λ place. nat_lt place bound ≡ true)
all_below bound first (suc count) small =
    All-cons (λ place. nat_lt place bound ≡ true) first (range_with_len (first + 1) count)
    (lt-ltb first bound (omega (arith, small)))
    (all_below bound (first + 1) count (omega (arith, small)))

module _ (config : Settings) where
  abbrev IsPeer : ℕ → Type 0
  IsPeer place = is_peer config place ≡ true

  abbrev GoesToPeer : ℕ × Frame → Type 0
  GoesToPeer frame = IsPeer frame.0

  are_peers : (other : ℕ) → All IsPeer (peers_but config other)
  are_peers other =
      let members : ℕ = length config.members in
      let test : ℕ → Bool = is_other config.place other in
      let below = All-filter test (λ place. nat_lt place members ≡ true) (range_with_len 0 members) (all_below members 0 members (omega (arith))) in
      let others = filter_passes test (range_with_len 0 members) in
      λ k place within. both_hold _ _ _ (below k place within) (others k place within)

  one_addressed : (places : List ℕ) (frame : Frame) → All IsPeer places → All (IfFits GoesToPeer) (addressed places frame)
  one_addressed [] frame are = All-nil (IfFits GoesToPeer)
  one_addressed (place ∷ places) frame are =
      All-cons (IfFits GoesToPeer) (place, frame) (addressed places frame) (λ fitting. All-head IsPeer place places are)
      (one_addressed places frame (All-tail IsPeer place places are))

  deltas_addressed : (places : List ℕ) (ds : List Delivery) → All IsPeer places → All (IfFits GoesToPeer) (deltas_to places ds)
  deltas_addressed places [] are = All-nil (IfFits GoesToPeer)
  deltas_addressed places (d ∷ ds) are =
      All-append (IfFits GoesToPeer) (addressed places (delta_of d)) (deltas_to places ds) (one_addressed places (delta_of d) are) (deltas_addressed places ds are)

  one_wanted : (place : ℕ) (frame : Frame) → IsPeer place → All (IfFits GoesToPeer) ((place, frame) ∷ [])
  one_wanted place frame is = All-cons (IfFits GoesToPeer) (place, frame) [] (λ fitting. is) (All-nil (IfFits GoesToPeer))

  last_addressed : (event : Event) (new : InstanceState) → knows_peer config (peer_of event) ≡ true → All (IfFits GoesToPeer) (last_wanted event new)
  last_addressed (events.Request request) new known = All-nil (IfFits GoesToPeer)
  last_addressed (events.Frame sender (frames.Delta part)) new known = All-nil (IfFits GoesToPeer)
  last_addressed (events.Frame sender (frames.Push parts)) new known = one_wanted sender (frames.Pull (whole_state new.silences new.log)) known
  last_addressed (events.Frame sender (frames.Pull parts)) new known = All-nil (IfFits GoesToPeer)
  last_addressed (events.Frame sender frames.Tick) new known = All-nil (IfFits GoesToPeer)
  last_addressed (events.Notified group_key receiver firing resolved repeat) new known = All-nil (IfFits GoesToPeer)
  last_addressed (events.Decide group_key receiver firing resolved repeat send_resolved) new known = All-nil (IfFits GoesToPeer)
  last_addressed (events.Mutes labels) new known = All-nil (IfFits GoesToPeer)
  last_addressed events.Show new known = All-nil (IfFits GoesToPeer)
  last_addressed events.Tick new known = All-nil (IfFits GoesToPeer)
  last_addressed (events.PullFrom place) new known = one_wanted place (frames.Push (whole_state new.silences new.log)) known

pub all_addressed : (old new : InstanceState) (event : Event) (now : ℕ) (outcome : Outcome) → IsStep old event now (Ok outcome) new → All (GoesToPeer old.config) outcome.frames.items
all_addressed old new event now outcome step =
    let places : List ℕ = peers_but old.config (origin old.config event) in
    let changing : List Delivery = changed_of now (silence_at old.silences) (entry_at old.log) (delivers old.config.unknown event outcome.made) in
    all_sent (GoesToPeer old.config) (deltas_to places changing ++ last_wanted event new) nothing_sent (sent_by outcome)
    (All-append (IfFits (GoesToPeer old.config)) (deltas_to places changing) (last_wanted event new)
    (deltas_addressed old.config places changing (are_peers old.config (origin old.config event)))
    (last_addressed old.config event new step.accepted.known))
    (All-nil (GoesToPeer old.config)) step.sent

-- ---- one that collects sends nothing, and leaves nothing out
pub collecting_sends : (old : InstanceState) (event : Event) (now : ℕ) (outcome : Outcome) (new : InstanceState) → collects event ≡ true → IsStep old event now (Ok outcome) new → sent_by outcome ≡ nothing_sent
collecting_sends old event now outcome new collecting step = by_event event collecting step
  where
    unsent : (event : Event) → made_here outcome.made ≡ [] → Sends (deltas_to (peers_but old.config (origin old.config event)) (changed_of now (silence_at old.silences) (entry_at old.log) (made_here outcome.made)) ++ []) nothing_sent (sent_by outcome) → sent_by outcome ≡ nothing_sent
    unsent event none sent =
        subst (λ (ds : List Delivery). Sends (deltas_to (peers_but old.config (origin old.config event)) (changed_of now (silence_at old.silences) (entry_at old.log) ds) ++ []) nothing_sent (sent_by outcome)) none sent

    by_event : (event : Event) → collects event ≡ true → IsStep old event now (Ok outcome) new → sent_by outcome ≡ nothing_sent
    by_event events.Tick collecting step = unsent events.Tick (frame_makes_nothing outcome.made step.reply.1) step.sent
    by_event (events.Frame sender frames.Tick) collecting step = unsent (events.Frame sender frames.Tick) (frame_makes_nothing outcome.made step.reply.1) step.sent
    by_event (events.Frame sender (frames.Delta part)) collecting step = absurd cc
    by_event (events.Frame sender (frames.Push parts)) collecting step = absurd cc
    by_event (events.Frame sender (frames.Pull parts)) collecting step = absurd cc
    by_event (events.Request request) collecting step = absurd cc
    by_event (events.Notified group_key receiver firing resolved repeat) collecting step = absurd cc
    by_event (events.Decide group_key receiver firing resolved repeat send_resolved) collecting step = absurd cc
    by_event (events.Mutes labels) collecting step = absurd cc
    by_event events.Show collecting step = absurd cc
    by_event (events.PullFrom place) collecting step = absurd cc
