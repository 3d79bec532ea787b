-- The account of a peer's frames, over calls of a member: those that steps send wait behind the others; all that wait leave at once, for
-- the peer's link, or to be put by; and all that are put by go at once.
use Rattle.std.specs.Prelude.{◌≡◌, ◌⊎◌, ℕ, List, [], ◌∷◌, ◌++◌, Option, Err}
use Rattle.std.specs.List.{flat_map}
use Rattle.am_api_decisions.specs.Asking.{HoldsSame}
use Rattle.am_backend.specs.Outbound.{AreGone, IsTaken, for_peers as for_peers_beside}
use Rattle.am_daemon.specs.Histories.{AreSentBetween}
use Rattle.am_daemon.specs.Offers.{AreGiven, AreHandedOn, ForPeers, IsGiven, IsLost, put_by_for}
use Rattle.am_daemon.specs.Sending.{MayTick}
use Rattle.am_gossip.specs.declared.frame.Frame.{Frame}
use Rattle.am_gossip.specs.declared.refusals.StepError.{StepError}
use Rattle.am_instance.specs.Configs.{Settings}
use Rattle.am_instance.specs.InstanceStates.{InstanceState}
use Rattle.am_instance.specs.OneStep.{IsStep}
use Rattle.am_instance.specs.Sendings.{Sent}
use Rattle.am_instance.specs.declared.event.Event.TheVariants as events
use Rattle.am_peers.specs.Queues.{frames_for}

-- the frames that wait for a peer, in order
abbrev pub waiting_for : ℕ → ForPeers → List Frame
waiting_for peer held = frames_for peer held.queue.frames

-- the frames that are put by for a peer until its link answers, in order
abbrev pub put_by_at : ℕ → ForPeers → List Frame
put_by_at peer held = (put_by_for held peer).frames

-- All that waits and is put by for a peer stays.
abbrev pub Stays : ℕ → ForPeers → ForPeers → Type 0
Stays peer old new = (waiting_for peer new ≡ waiting_for peer old) × (put_by_at peer new ≡ put_by_at peer old)

-- Nothing is sent: only the moment changed, or a Tick was made, and perhaps the step of a frame that was refused.
abbrev pub NothingIsSent : InstanceState → InstanceState → Type 0
NothingIsSent old new = HoldsSame old new
    ⊎ ((ticked : InstanceState) × MayTick old ticked
    × ((new ≡ ticked) ⊎ ((came : ℕ × Frame) × (now : ℕ) × (error : StepError) × IsStep ticked (events.Frame came.0 came.1) now (Err error) new)))

-- These frames come to wait for a peer: none, if nothing is sent; all that steps sent to that peer; or none, if there is no memory for
-- those, and what waits stays.
abbrev pub Come : ℕ → Option ℕ → List Frame → InstanceState → Sent → InstanceState → Sent → Type 0
Come peer disk came old was new is = ((came ≡ []) × NothingIsSent old new)
    ⊎ ((sent : Sent) × AreSentBetween sent old new
    × ((came ≡ frames_for peer (for_peers_beside disk sent.frames)) ⊎ ((came ≡ []) × (is.frames ≡ was.frames))))

-- frames of a peer that leave at once, and those of them that are put by: all, or none
pub record Departure : Type 0 where
  pub frames : List Frame
  pub put_by : List Frame

-- All frames that wait for a peer leave: they are handed to the Alertmanager at its place, bytes are given for them, or they are put by or
-- dropped; or there is no memory for that, and all that wait for whomever are counted.
abbrev pub AreLeaving : ℕ → List Frame → ForPeers → ForPeers → Type 0
AreLeaving peer frames old new =
    ((queue : Sent) × IsTaken peer frames old.queue queue
    × (AreHandedOn peer frames (record old { queue = queue }) new
    ⊎ ((bytes : List ℕ) × AreGiven old.lock peer frames bytes (record old { queue = queue }) new)))
    ⊎ ((queue : Sent) × (frames ≡ waiting_for peer old) × AreGone old.queue queue × (new ≡ record old { queue = queue }))

-- They leave so, and just those that the departure names are put by, behind the others.
abbrev pub AllLeave : ℕ → Departure → ForPeers → ForPeers → Type 0
AllLeave peer departure old new = AreLeaving peer departure.frames old new
    × ((departure.put_by ≡ []) ⊎ (departure.put_by ≡ departure.frames)) × (put_by_at peer new ≡ put_by_at peer old ++ departure.put_by)

-- Frames of a peer leave so, once or more, or not at all; in between and at the end all stays.
abbrev pub Leave : ℕ → List Departure → ForPeers → ForPeers → Type 0
Leave peer [] old new = Stays peer old new
Leave peer (departure ∷ rest) old new = (before : ForPeers) × (after : ForPeers) × Stays peer old before × AllLeave peer departure before after × Leave peer rest after new

-- The frames that are put by for a peer go, all at once: over the link that answered, or with the link that is closed or lost. Or all stays.
abbrev pub Go : ℕ → List Frame → ForPeers → ForPeers → Type 0
Go peer went old new = ((went ≡ []) × Stays peer old new)
    ⊎ ((went ≡ put_by_at peer old) × (put_by_at peer new ≡ []) × (waiting_for peer new ≡ waiting_for peer old)
    × (((config : Settings) × (answer : List ℕ) × (bytes : Option (List ℕ)) × IsGiven config peer answer bytes old new) ⊎ IsLost peer old new))

-- the frames that come to wait for a peer, those that leave, those of them that are put by, and those put by that go
pub record Account : Type 0 where
  pub came : List Frame
  pub left : List Frame
  pub put : List Frame
  pub went : List Frame

-- that of one call behind that of another
abbrev pub and_then : Account → Account → Account
and_then one other = record { came = one.came ++ other.came; left = one.left ++ other.left; put = one.put ++ other.put; went = one.went ++ other.went }

-- The account of one call: some frames come, behind those that wait for the peer, then some leave, and then those that are put by go.
pub record IsAccount (peer : ℕ) (disk : Option ℕ) (account : Account) (old : InstanceState) (was : ForPeers) (new : InstanceState) (is : ForPeers) : Type 0 where
  pub mid : ForPeers
  pub last : ForPeers
  pub departures : List Departure
  pub come : Come peer disk account.came old was.queue new is.queue
  pub behind : waiting_for peer mid ≡ waiting_for peer was ++ account.came
  pub kept : put_by_at peer mid ≡ put_by_at peer was
  pub leave : Leave peer departures mid last
  pub go : Go peer account.went last is
  pub left : account.left ≡ flat_map (λ departure. departure.frames) departures
  pub put : account.put ≡ flat_map (λ departure. departure.put_by) departures

-- It adds up: what waited and came is what left and what waits, and what was put by before and since is what went and what is put by, each
-- once and in order.
abbrev pub AddsUp : ℕ → Account → ForPeers → ForPeers → Type 0
AddsUp peer account old new = (waiting_for peer old ++ account.came ≡ account.left ++ waiting_for peer new)
    × (put_by_at peer old ++ account.put ≡ account.went ++ put_by_at peer new)

-- The account of calls, one after another.
module _ {S : Type 0} (instance_of : S → InstanceState) (held_of : S → ForPeers) (disk_of : S → Option ℕ) (peer : ℕ) where
  -- that of the call between two states of a member
  abbrev pub IsAccountBetween : Account → S → S → Type 0
  IsAccountBetween account s s' = IsAccount peer (disk_of s) account (instance_of s) (held_of s) (instance_of s') (held_of s')

  -- it is made up of those of the calls
  abbrev pub IsAccountOver : Account → S → List S → S → Type 0
  IsAccountOver account s [] s' = IsAccountBetween account s s'
  IsAccountOver account s (next ∷ rest) s' = (one : Account) × (other : Account) × (account ≡ and_then one other) × IsAccountBetween one s next × IsAccountOver other next rest s'
