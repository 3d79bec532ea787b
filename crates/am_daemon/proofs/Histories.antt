-- The sources of the frames that wait for peers, over all calls of a member.
use Rattle.std.proofs.Common.{◌≡◌, ◌⊎◌, ℕ, Bool, true, false, List, [], ◌∷◌, Contains, Option, None, Some, Result, Ok, Err, ap, arith, inl, inr, refl, subst, ⊎_elim}
use Rattle.std.proofs.lemmas.List.Elements.{All-contains, All-contains_itself, All-filter, Contains-append_cases}
use Rattle.std.specs.Prelude.{◌==◌, if◌then◌else◌, not}
use Rattle.am_backend.specs.CommitStates.{disk_of}
use Rattle.am_backend.specs.Outbound.{AreGone, IsQueued, IsSentOn, IsTaken, for_peers as for_peers_beside}
use Rattle.am_gossip.specs.declared.frame.Frame.{Frame}
use Rattle.am_gossip.specs.declared.refusals.StepError.{StepError}
use Rattle.am_instance.specs.Configs.{Settings}
use Rattle.am_instance.specs.InstanceStates.{InstanceState}
use Rattle.am_instance.specs.OneStep.{IsStep}
use Rattle.am_instance.specs.Sendings.{Sent, sent_by}
use Rattle.am_instance.specs.declared.event.Event.TheVariants as events
use Rattle.am_instance.specs.declared.reply.Outcome.{Outcome}
use Rattle.am_peer_auth.specs.declared.seal.Lock.{Lock}
use Rattle.am_peers.specs.Queues.{frames_beside}
use Rattle.am_reactor.specs.Deeds.{Deed}
use Rattle.am_reactor.specs.declared.fault.LinkFault.{LinkFault}
use Rattle.am_reactor.specs.declared.service.Service.{Ghosts as Service}
use Rattle.am_daemon.specs.Histories.{AreCalls, IsAnyCall, IsSentBetween, IsSentIn}
use Rattle.am_daemon.specs.Offers.{AreGiven, AreLost, ForPeers, GivesFrames, IsAtRest, IsGiven, IsLost, IsOffered, Passes, PassesAll, is_beside, nothing_put_by, put_by_for, with_put_by}
use Rattle.am_daemon.specs.Sending.{ActsForPeers, FrameIsSentOn, IsQuiet, IsWoken, MayTick, NoticeIsPassedOn, Outlets, PassesOn, SaidIsPassedOn}
use Rattle.am_daemon.proofs.Offers.{handed_waits}

-- ---- no more frames wait

none_there : {A X : Type 0} (x : X) → Contains [] x → A
none_there x (k, within, is) = absurd (omega arith)

pub given_frames : (lock : Option Lock) (peer : ℕ) (frames : List Frame) (bytes : List ℕ) (old new : ForPeers) → AreGiven lock peer frames bytes old new → new.queue.frames ≡ old.queue.frames
given_frames None peer frames bytes old new are = are.1.1
given_frames (Some lock) peer frames bytes old new are = ap (λ (held : ForPeers). held.queue.frames) are.1.1

pub lost_frames : (put_by : List Frame) (was is : Sent) → AreLost put_by was is → is.frames ≡ was.frames
lost_frames put_by was is (inl none) = ap (λ (s : Sent). s.frames) none.1
lost_frames put_by was is (inr left) = ap (λ (s : Sent). s.frames) left.2

module _ (queued : ℕ × Frame) where
  -- what waits after waited before
  abbrev NoMore : Sent → Sent → Type 0
  NoMore was is = Contains is.frames queued → Contains was.frames queued

  still : (was is : Sent) → is.frames ≡ was.frames → NoMore was is
  still was is same there = subst (λ (frames : List (ℕ × Frame)). Contains frames queued) same there

  beside : (place : ℕ) (frames : List (ℕ × Frame)) → Contains (frames_beside place frames) queued → Contains frames queued
  beside place frames there = All-contains (Contains frames) (frames_beside place frames) queued (All-filter (λ q. not (q.0 == place)) (Contains frames) frames (All-contains_itself frames)) there

  to_peers : (disk : Option ℕ) (frames : List (ℕ × Frame)) → Contains (for_peers_beside disk frames) queued → Contains frames queued
  to_peers None frames there = there
  to_peers (Some disk) frames there = beside disk frames there

  gone : (was is : Sent) → AreGone was is → NoMore was is
  gone was is (inl none) there = still was is (ap (λ (s : Sent). s.frames) none.1) there
  gone was is (inr all) there = none_there queued (subst (λ (s : Sent). Contains s.frames queued) all there)

  taken : (place : ℕ) (frames : List Frame) (was is : Sent) → IsTaken place frames was is → NoMore was is
  taken place frames was is out there = beside place was.frames (subst (λ (s : Sent). Contains s.frames queued) out.rest there)

  passes : (old new : ForPeers) → Passes old new → NoMore old.queue new.queue
  passes old new (inl (queue, are_gone, is)) there = gone old.queue queue are_gone (subst (λ (held : ForPeers). Contains held.queue.frames queued) is there)
  passes old new (inr (place, frames, queue, out, handed)) there = taken place frames old.queue queue out
      (subst (λ (fs : List (ℕ × Frame)). Contains fs queued) (handed_waits place frames (record old { queue = queue }) new handed) there)

  passes_all : (between : List ForPeers) (old new : ForPeers) → PassesAll between old new → NoMore old.queue new.queue
  passes_all [] old new same there = subst (λ (held : ForPeers). Contains held.queue.frames queued) same there
  passes_all (mid ∷ between) old new all there = passes_all between old mid all.0 (passes mid new all.1 there)

  gives_frames : (peer : ℕ) (bytes : List ℕ) (old new : ForPeers) → GivesFrames peer bytes old new → NoMore old.queue new.queue
  gives_frames peer bytes old new (place, frames, queue, out, given) there = taken place frames old.queue queue out
      (subst (λ (fs : List (ℕ × Frame)). Contains fs queued) (given_frames old.lock peer frames bytes (record old { queue = queue }) new given.2) there)

  offers : (peer : ℕ) (bytes : List ℕ) (old new : ForPeers) → IsOffered peer bytes old new → NoMore old.queue new.queue
  offers peer bytes old new (mid, none, inl frames) there = passes_all none.0 old mid none.1 (gives_frames peer bytes mid new frames there)
  offers peer bytes old new (mid, none, inr opens) there = passes_all none.0 old mid none.1 (subst (λ (held : ForPeers). Contains held.queue.frames queued) opens.opened there)

  rests : (old new : ForPeers) → IsAtRest old new → NoMore old.queue new.queue
  rests old new rest there = passes_all rest.0.0 old new rest.0.1 there

  gives : (config : Settings) (peer : ℕ) (answer : List ℕ) (bytes : Option (List ℕ)) (old new : ForPeers) → IsGiven config peer answer bytes old new → NoMore old.queue new.queue
  gives config peer answer None old new (queue, lost, is) there = still old.queue queue (lost_frames (put_by_for old peer).frames old.queue queue lost)
      (subst (λ (held : ForPeers). Contains held.queue.frames queued) is there)
  gives config peer answer (Some bytes) old new (frames, next, text, counts) there = still old.queue new.queue counts.1 there

  loses_by : (b : Bool) (peer : ℕ) (old new : ForPeers) → new ≡ (if b then old else with_put_by peer nothing_put_by old) → NoMore old.queue new.queue
  loses_by true peer old new is there = subst (λ (held : ForPeers). Contains held.queue.frames queued) is there
  loses_by false peer old new is there = subst (λ (held : ForPeers). Contains held.queue.frames queued) is there

  loses : (peer : ℕ) (old new : ForPeers) → IsLost peer old new → NoMore old.queue new.queue
  loses peer old new is there = loses_by (is_beside old peer) peer old new is there

  -- ---- more frames wait, which were sent

  queues : (disk : Option ℕ) (sent was is : Sent) → IsQueued disk sent was is → Contains is.frames queued → Contains was.frames queued ⊎ Contains sent.frames queued
  queues disk sent was is (inl more) there = ⊎_elim (λ before. inl before) (λ behind. inr (to_peers disk sent.frames behind))
      (Contains-append_cases was.frames (for_peers_beside disk sent.frames) queued (subst (λ (s : Sent). Contains s.frames queued) more there))
  queues disk sent was is (inr none) there = inl (subst (λ (s : Sent). Contains s.frames queued) none there)

  -- what waits after waited before, or was sent in between
  abbrev pub ComesOf : InstanceState → Sent → InstanceState → Sent → Type 0
  ComesOf old was new is = Contains is.frames queued → Contains was.frames queued ⊎ IsSentBetween queued old new

  frame_sent : (disk : Option ℕ) (old ticked new : InstanceState) (came : ℕ × Frame) (now : ℕ) (answer : Result Outcome StepError) (was is : Sent) → MayTick old ticked →
      IsStep ticked (events.Frame came.0 came.1) now answer new → IsSentOn disk answer was is → ComesOf old was new is
  frame_sent disk old ticked new came now (Ok outcome) was is tick step sent there = ⊎_elim (λ before. inl before)
      (λ behind. inr (sent_by outcome, inr (inr (ticked, came, now, outcome, tick, step, refl)), behind)) (queues disk (sent_by outcome) was is sent there)
  frame_sent disk old ticked new came now (Err error) was is tick step same there = inl (subst (λ (s : Sent). Contains s.frames queued) same there)

  frame_on : (came : Option (ℕ × Frame)) (disk : Option ℕ) (old ticked new : InstanceState) (was is : ForPeers) → MayTick old ticked → FrameIsSentOn came disk ticked was new is →
      ComesOf old was.queue new is.queue
  frame_on None disk old ticked new was is tick same there = inl (subst (λ (held : ForPeers). Contains held.queue.frames queued) same.1 there)
  frame_on (Some came) disk old ticked new was is tick sent there = frame_sent disk old ticked new came sent.0 sent.1 was.queue is.queue tick sent.2 sent.3 there

  wakes : (disk : Option ℕ) (old new : InstanceState) (was is : ForPeers) → IsWoken disk old was new is → ComesOf old was.queue new is.queue
  wakes disk old new was is woken there = ⊎_elim (λ before. inl (still was.queue woken.before.queue woken.waits.1 before)) (λ sent. inr sent)
      (frame_on woken.came disk old woken.ticked new woken.before woken.after woken.tick woken.sent (still woken.after.queue is.queue woken.stays.1 there))

  pub acts_on : (disk : Option ℕ) (old new : InstanceState) (was is : ForPeers) → ActsForPeers disk old was new is → ComesOf old was.queue new is.queue
  acts_on disk old new was is (inl stays) there = inl (still was.queue is.queue stays.1.1 there)
  acts_on disk old new was is (inr (inl rest)) there = inl (rests was is rest.1 there)
  acts_on disk old new was is (inr (inr woken)) there = wakes disk old new was is woken there

  does_by : (old new : InstanceState) (was is : Outlets) → IsQuiet old was new is ⊎ (SaidIsPassedOn old was new is ⊎ NoticeIsPassedOn old was new is) → ComesOf old was.queue new is.queue
  does_by old new was is (inl quiet) there = inl (subst (λ (o : Outlets). Contains o.queue.frames queued) quiet.stays there)
  does_by old new was is (inr (inl said)) there = ⊎_elim (λ before. inl before)
      (λ sent. inr (said.answer.effects.outbox, inl (said.name, said.bits, said.now, said.said, said.answer, said.exchanged, refl), sent))
      (queues (disk_of was.store.commit_state) said.answer.effects.outbox was.queue is.queue said.passed.queued there)
  does_by old new was is (inr (inr notice)) there = ⊎_elim (λ before. inl before)
      (λ sent. inr (notice.answer.outbox, inr (inl (notice.now, notice.notice, notice.answer, notice.noticed, refl)), sent))
      (queues (disk_of was.store.commit_state) notice.answer.outbox was.queue is.queue notice.passed.queued there)

  pub does_on : (old new : InstanceState) (was is : Outlets) → PassesOn old was new is → ComesOf old was.queue new is.queue
  does_on old new was is passed there = does_by old new was is passed.by there

  pub loses_on : (peer : ℕ) (old new : InstanceState) (was is : ForPeers) → IsLost peer was is → ComesOf old was.queue new is.queue
  loses_on peer old new was is lost there = inl (loses peer was is lost there)

  pub gives_on : (config : Settings) (peer : ℕ) (answer : List ℕ) (bytes : Option (List ℕ)) (old new : InstanceState) (was is : ForPeers) → IsGiven config peer answer bytes was is →
      ComesOf old was.queue new is.queue
  gives_on config peer answer bytes old new was is given there = inl (gives config peer answer bytes was is given there)

  pub offers_on : (peer : ℕ) (bytes : List ℕ) (old new : InstanceState) (was is : ForPeers) → IsOffered peer bytes was is → ComesOf old was.queue new is.queue
  offers_on peer bytes old new was is offered there = inl (offers peer bytes was is offered there)

  pub stays_on : (old new : InstanceState) (was is : ForPeers) → is ≡ was → ComesOf old was.queue new is.queue
  stays_on old new was is same there = inl (subst (λ (held : ForPeers). Contains held.queue.frames queued) same there)

-- ---- over calls

module _ {S T : Type 0} (law : Service S T) (Holds : S → S → Type 0) where
  -- this holds of each call, if it does of each kind of calls
  pub any_call : ((s s' : S) → law.acts s s' → Holds s s')
      → ((s : S) (peer : ℕ) (fault : LinkFault) (s' : S) → law.loses s peer fault s' → Holds s s')
      → ((s : S) (peer : ℕ) (bytes : List ℕ) (s' : S) → law.answers s peer bytes s' → Holds s s')
      → ((s : S) (peer : ℕ) (answer : List ℕ) (more : Option (List ℕ)) (s' : S) → law.gives s peer answer more s' → Holds s s')
      → ((s : S) (peer : ℕ) (bytes : List ℕ) (s' : S) → law.offers s peer bytes s' → Holds s s')
      → ((s : S) (peer : ℕ) (bytes : List ℕ) (s' : S) → law.asks s peer bytes s' → Holds s s')
      → ((s : S) (session : T) (deed : Deed) (s' : S) (session' : T) → law.does s session deed s' session' → Holds s s')
      → ((s : S) (session : T) (s' : S) → law.begins s session s' → Holds s s')
      → (s s' : S) → IsAnyCall law s s' → Holds s s'
  any_call acted lost answered given offered asked did begun s s' (inl (inl call)) = acted s s' call
  any_call acted lost answered given offered asked did begun s s' (inl (inr (inl call))) = lost s call.0 call.1 s' call.2
  any_call acted lost answered given offered asked did begun s s' (inl (inr (inr (inl call)))) = answered s call.0 call.1 s' call.2
  any_call acted lost answered given offered asked did begun s s' (inl (inr (inr (inr (inl call))))) = given s call.0 call.1 call.2 s' call.3
  any_call acted lost answered given offered asked did begun s s' (inl (inr (inr (inr (inr (inl call)))))) = offered s call.0 call.1 s' call.2
  any_call acted lost answered given offered asked did begun s s' (inl (inr (inr (inr (inr (inr call)))))) = asked s call.0 call.1 s' call.2
  any_call acted lost answered given offered asked did begun s s' (inr (inl call)) = did s call.0 call.1 s' call.2 call.3
  any_call acted lost answered given offered asked did begun s s' (inr (inr call)) = begun s call.0 s' call.1

module _ {S T : Type 0} (law : Service S T) (instance_of : S → InstanceState) (queue_of : S → Sent) (queued : ℕ × Frame) where
  -- what waits after a call waited before, or the steps of the call sent it
  abbrev pub From : S → S → Type 0
  From s s' = ComesOf queued (instance_of s) (queue_of s) (instance_of s') (queue_of s')

  pub calls_from : ((s s' : S) → IsAnyCall law s s' → From s s') → (first : S) (between : List S) (last : S) → AreCalls law first between last →
      Contains (queue_of last).frames queued → Contains (queue_of first).frames queued ⊎ IsSentIn instance_of queued first between last
  calls_from each first [] last call there = each first last call there
  calls_from each first (next ∷ rest) last calls there = ⊎_elim
      (λ before. ⊎_elim (λ start. inl start) (λ sent. inr (inl sent)) (each first next calls.0 before))
      (λ later. inr (inr later)) (calls_from each next rest last calls.1 there)
