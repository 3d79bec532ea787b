-- The fate of the frames that steps send.
use Rattle.std.specs.Prelude.{◌≡◌, ◌⊎◌, ℕ, List, map, Option, None, Some, Result}
use Rattle.am_api_decisions.specs.Asking.{HoldsSame}
use Rattle.am_api_decisions.specs.Noticing.{IsNoticed}
use Rattle.am_api_decisions.specs.declared.notice.Notice.{Notice}
use Rattle.am_api_silences.specs.Answers.{WhenMade}
use Rattle.am_api_silences.specs.declared.answering.PendingAnswer.{PendingAnswer}
use Rattle.am_backend.specs.CommitStates.{disk_of}
use Rattle.am_backend.specs.Outbound.{IsQueued, IsSentOn}
use Rattle.am_backend.specs.Stores.{IsFollowed, Store}
use Rattle.am_daemon.specs.Offers.{ForPeers, IsAtRest, OnlyCounts, PutBy, put_by_of}
use Rattle.am_daemon.specs.declared.member.server_state.ServerState.{ServerState}
use Rattle.am_gossip.specs.declared.frame.Frame.{Frame}
use Rattle.am_gossip.specs.declared.refusals.StepError.{StepError}
use Rattle.am_http.specs.Sessions.{Spoken}
use Rattle.am_instance.specs.InstanceStates.{InstanceState}
use Rattle.am_instance.specs.OneStep.{IsStep}
use Rattle.am_instance.specs.Sendings.{Sent}
use Rattle.am_instance.specs.declared.event.Event.TheVariants as events
use Rattle.am_instance.specs.declared.reply.Outcome.{Outcome}
use Rattle.am_member.specs.Exchanging.{IsSessionAnswer}
use Rattle.am_member.specs.declared.session_answer.SessionAnswer.{SessionAnswer}

-- the places to which frames of steps go: the store, the frames that wait for peers, and what is put by for each peer, by place
pub record Outlets : Type 0 where
  pub store : Store
  pub queue : Sent
  pub put_by : List PutBy

-- those of a member's state whose backend has this store, and these frames that wait
abbrev pub outlets : {U : Type 0} → (U → Store) → (U → Sent) → ServerState U → Outlets
outlets store_of outbound state = record { store = store_of state.backend; queue = outbound state.backend; put_by = map put_by_of state.pending_frames.items }

-- The frames that were sent are passed on: with logs, those for the place of the disk are logged, or the logs are known to lack them; and
-- those for peers wait behind the others, in order, or memory ran out, and just they are counted. All that is put by stays.
pub record IsPassedOn (sent : Sent) (old new : Outlets) : Type 0 where
  pub logged : IsFollowed sent old.store new.store
  pub queued : IsQueued (disk_of old.store.commit_state) sent old.queue new.queue
  pub put_by : new.put_by ≡ old.put_by

-- The steps of what a connection said were made, and just what they send is passed on.
pub record SaidIsPassedOn (old : InstanceState) (was : Outlets) (new : InstanceState) (is : Outlets) : Type 0 where
  pub name : Option (List ℕ)
  pub bits : ℕ
  pub now : ℕ
  pub said : Spoken
  pub answer : SessionAnswer
  pub exchanged : IsSessionAnswer name bits now said old new answer
  pub passed : IsPassedOn answer.effects.outbox was is

-- A notice is answered, and just what its step sends is passed on.
pub record NoticeIsPassedOn (old : InstanceState) (was : Outlets) (new : InstanceState) (is : Outlets) : Type 0 where
  pub now : ℕ
  pub notice : Notice
  pub answer : PendingAnswer
  pub noticed : WhenMade (λ answered. IsNoticed now notice old answered new) answer
  pub passed : IsPassedOn answer.outbox was is

-- Nothing but the moment changed, and nothing is passed on.
pub record IsQuiet (old : InstanceState) (was : Outlets) (new : InstanceState) (is : Outlets) : Type 0 where
  pub same : HoldsSame old new
  pub stays : is ≡ was

-- The maps changed only by steps that a connection asked for, or of a notice, and just the frames that these send are passed on.
pub record PassesOn (old : InstanceState) (was : Outlets) (new : InstanceState) (is : Outlets) : Type 0 where
  pub by : IsQuiet old was new is ⊎ (SaidIsPassedOn old was new is ⊎ NoticeIsPassedOn old was new is)

-- ---- what a member does by itself

-- A Tick was made, or nothing was.
abbrev pub MayTick : InstanceState → InstanceState → Type 0
MayTick old new = (new ≡ old) ⊎ ((now : ℕ) × (answer : Result Outcome StepError) × IsStep old events.Tick now answer new)

-- The step of the frame that came from the Alertmanager at a place was made, and just what it sends waits behind what waited before. If
-- none came, nothing was done.
abbrev pub FrameIsSentOn : Option (ℕ × Frame) → Option ℕ → InstanceState → ForPeers → InstanceState → ForPeers → Type 0
FrameIsSentOn None disk old was new is = (new ≡ old) × (is ≡ was)
FrameIsSentOn (Some came) disk old was new is = (now : ℕ) × (answer : Result Outcome StepError) × IsStep old (events.Frame came.0 came.1) now answer new
    × IsSentOn disk answer was.queue is.queue × (is ≡ record was { queue = is.queue })

-- A member was woken: perhaps it made a Tick, which sends nothing to peers, and then the step of an Alertmanager's frame, if one came.
-- Beside that, only frames that aren't sent are counted.
pub record IsWoken (disk : Option ℕ) (old : InstanceState) (was : ForPeers) (new : InstanceState) (is : ForPeers) : Type 0 where
  pub ticked : InstanceState
  pub before : ForPeers
  pub after : ForPeers
  pub came : Option (ℕ × Frame)
  pub tick : MayTick old ticked
  pub waits : OnlyCounts was before
  pub sent : FrameIsSentOn came disk ticked before new after
  pub stays : OnlyCounts after is

-- A call that is for no connection and no peer: what waits for peers stays, no frame waits any more, or what was due was done.
abbrev pub ActsForPeers : Option ℕ → InstanceState → ForPeers → InstanceState → ForPeers → Type 0
ActsForPeers disk old was new is = ((new ≡ old) × OnlyCounts was is) ⊎ (((new ≡ old) × IsAtRest was is) ⊎ IsWoken disk old was new is)
