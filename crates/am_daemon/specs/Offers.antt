-- The bytes that a member gives for its peers: of the frames that wait for each, and then of parts of all that is held.
use Rattle.std.specs.Prelude.{◌≡◌, ◌⊎◌, ℕ, ◌+◌, Bool, true, false, if◌then◌else◌, nat_le, List, [], ◌∷◌, ◌++◌, length, take, map, slice_set, slice_index_or, Option, Some, None, is_some, ⊤}
use Rattle.std.specs.List.{flat_map}
use Rattle.std.specs.declared.net.SocketAddr.{SocketAddr}
use Rattle.am_gossip.specs.Frames.{frame_encoding}
use Rattle.am_gossip.specs.declared.frame.Frame.{Frame}
use Rattle.am_instance.specs.Configs.{Settings}
use Rattle.am_instance.specs.Handings.{IsHandedOut}
use Rattle.am_instance.specs.InstanceStates.{InstanceState}
use Rattle.am_instance.specs.Sendings.{Sent, capped}
use Rattle.am_instance.specs.declared.handing.HandedPart.{HandedPart}
use Rattle.am_instance.specs.declared.handing.Handout.{Handout}
use Rattle.am_peer_auth.specs.declared.seal.Lock.{Lock}
use Rattle.am_peer_auth.specs.declared.sequence.Sequence.{Sequence}
use Rattle.am_server.specs.Transfers.{behind_part, left_in, part_frame, with_none_left}
use Rattle.am_server.specs.declared.state_transfer.StateTransfer.{StateTransfer}
use Rattle.am_backend.specs.Outbound.{AreGone, IsTaken, IsEncodingFor, left_out}
use Rattle.am_daemon.specs.declared.member.pending_frames.PendingFrames.{PendingFrames}
use Rattle.am_daemon.specs.declared.member.server_state.ServerState.{ServerState}

-- the frames that are put by for a peer until its link answers; whether a link is open, or asked for; and the number of frames
-- that went to that link
pub record PutBy : Type 0 where
  pub frames : List Frame
  pub is_open : Bool
  pub number : ℕ

-- nothing is put by, and no link is open
abbrev pub nothing_put_by : PutBy
nothing_put_by = record { frames = []; is_open = false; number = 0 }

-- the frames that are put by, and their link, as contracts see them
abbrev pub put_by_of : PendingFrames → PutBy
put_by_of pending = record { frames = pending.frames.items; is_open = pending.is_open; number = pending.count }

-- with these frames behind the others, and a link asked for
abbrev pub put_behind : List Frame → PutBy → PutBy
put_behind frames it = record it { frames = it.frames ++ frames; is_open = true }

-- once all frames, and as many as this in all, went to the link
abbrev pub gone_on : ℕ → PutBy → PutBy
gone_on count it = record it { frames = []; number = capped (it.number + count) }

-- all that is to be sent to peers: the frames that wait, what is put by for each peer, by place, the addresses of the
-- Alertmanagers beside the member, by place, and the lock by which frames are sealed
pub record ForPeers : Type 0 where
  pub queue : Sent
  pub put_by : List PutBy
  pub asked : List (Option SocketAddr)
  pub lock : Option Lock

-- all that a member's state has for peers, if its backend has these frames that wait, and this lock
abbrev pub for_peers : {U : Type 0} → (U → Sent) → (U → Option Lock) → ServerState U → ForPeers
for_peers outbound sealed_by state = record {
  queue = outbound state.backend;
  put_by = map put_by_of state.pending_frames.items;
  asked = state.asked.items;
  lock = sealed_by state.backend;
}

-- the frames that are put by for a peer, and its link
abbrev pub put_by_for : ForPeers → ℕ → PutBy
put_by_for held peer = slice_index_or held.put_by peer nothing_put_by

-- once this is put by for a peer
abbrev pub with_put_by : ℕ → PutBy → ForPeers → ForPeers
with_put_by peer it held = record held { put_by = slice_set held.put_by peer it }

-- an Alertmanager beside the member is at the place
abbrev pub is_beside : ForPeers → ℕ → Bool
is_beside held place = is_some (slice_index_or held.asked place None)

-- Only frames that aren't sent are counted, and nothing else changes.
abbrev pub OnlyCounts : ForPeers → ForPeers → Type 0
OnlyCounts old new = (new ≡ record old { queue = new.queue }) × (new.queue.frames ≡ old.queue.frames)

-- Frames are put by for a peer behind the others, and a link is asked for if none is open. Or they are dropped.
abbrev pub IsPutBy : ℕ → List Frame → Bool → ForPeers → ForPeers → Type 0
IsPutBy peer frames true old new = ((put_by_for old peer).is_open ≡ false) × (new ≡ with_put_by peer (put_behind frames (put_by_for old peer)) old)
IsPutBy peer frames false old new = (new ≡ old) ⊎ (((put_by_for old peer).is_open ≡ true) × (new ≡ with_put_by peer (put_behind frames (put_by_for old peer)) old))

-- No bytes are given for a peer's frames, by this lock: they are put by for a link that is open, or are dropped; or, if nothing is
-- sealed, there is no memory for their encoding, and they are counted.
abbrev pub AreKeptBack : Option Lock → ℕ → List Frame → ForPeers → ForPeers → Type 0
AreKeptBack None peer frames old new = new ≡ record old { queue = left_out (length frames) old.queue }
AreKeptBack (Some lock) peer frames old new = IsPutBy peer frames false old new

-- Bytes are given for a peer's frames, by this lock: their encoding; or none, which opens a link, and the frames are put by.
abbrev pub AreGiven : Option Lock → ℕ → List Frame → List ℕ → ForPeers → ForPeers → Type 0
AreGiven None peer frames bytes old new = (bytes ≡ flat_map frame_encoding frames) × OnlyCounts old new
AreGiven (Some lock) peer frames bytes old new = (bytes ≡ []) × IsPutBy peer frames true old new

-- The frames for a place that are taken out are handed to the Alertmanager there, or are kept back.
abbrev pub AreHandedOn : ℕ → List Frame → ForPeers → ForPeers → Type 0
AreHandedOn place frames old new = ((is_beside old place ≡ true) × (new ≡ old)) ⊎ ((is_beside old place ≡ false) × AreKeptBack old.lock place frames old new)

-- The frames for the place of the first one are taken out, and just that is done with them.
abbrev pub TakesOut : (ℕ → List Frame → ForPeers → Type 0) → ForPeers → Type 0
TakesOut done old = (place : ℕ) × (frames : List Frame) × (queue : Sent) × IsTaken place frames old.queue queue × done place frames (record old { queue = queue })

-- The frames for one place are taken out, and nothing is given for a peer; or there is no memory for that, and all that wait are counted.
abbrev pub Passes : ForPeers → ForPeers → Type 0
Passes old new = ((queue : Sent) × AreGone old.queue queue × (new ≡ record old { queue = queue })) ⊎ TakesOut (λ place frames mid. AreHandedOn place frames mid new) old

-- The same for one place after the other: these are the states in between, the last one first.
abbrev pub PassesAll : List ForPeers → ForPeers → ForPeers → Type 0
PassesAll [] old new = new ≡ old
PassesAll (mid ∷ between) old new = PassesAll between old mid × Passes mid new

-- nothing is given for a peer
abbrev pub GivesNone : ForPeers → ForPeers → Type 0
GivesNone old new = (between : List ForPeers) × PassesAll between old new

-- Bytes are given for the frames that wait for the peer of the first one, which isn't an Alertmanager.
abbrev pub GivesFrames : ℕ → List ℕ → ForPeers → ForPeers → Type 0
GivesFrames peer bytes old new = TakesOut (λ place frames mid. (place ≡ peer) × (is_beside mid peer ≡ false) × AreGiven mid.lock peer frames bytes mid new) old

-- Nothing waits, and a link to a peer is opened, for what is held.
pub record OpensLink (peer : ℕ) (bytes : List ℕ) (old new : ForPeers) : Type 0 where
  pub none : old.queue.frames ≡ []
  pub empty : bytes ≡ []
  pub opened : new ≡ with_put_by peer (record (put_by_for old peer) { is_open = true }) old

-- Bytes are given for a peer: after frames for which nothing is given, those for that peer are next, or none waits.
abbrev pub IsOffered : ℕ → List ℕ → ForPeers → ForPeers → Type 0
IsOffered peer bytes old new = (mid : ForPeers) × GivesNone old mid × (GivesFrames peer bytes mid new ⊎ OpensLink peer bytes mid new)

-- Nothing is given, and no frame waits any more.
abbrev pub IsAtRest : ForPeers → ForPeers → Type 0
IsAtRest old new = GivesNone old new × (new.queue.frames ≡ [])

-- A link to a peer is lost: what was put by for the peer is dropped, and the link is closed. An Alertmanager has neither.
abbrev pub IsLost : ℕ → ForPeers → ForPeers → Type 0
IsLost peer old new = new ≡ (if is_beside old peer then old else with_put_by peer nothing_put_by old)

-- the place of a frame in its connection behind this many others, if what the connection answered with is a challenge
abbrev pub place_in : List ℕ → ℕ → Option Sequence
place_in answer number = if nat_le 32 (length answer) then Some (record { challenge = take 32 answer; number = number }) else None

-- These frames go to a peer next: all that were put by, or, if none were, a part of all that is held.
abbrev pub AreNext : List Frame → List Frame → Type 0
AreNext [] frames = (part : Frame) × (frames ≡ part ∷ [])
AreNext (frame ∷ put_by) frames = frames ≡ frame ∷ put_by

-- No frames go to a peer next: none were put by, and no part is left; or there is no memory for the encoding of those, and they are
-- counted.
abbrev pub AreLost : List Frame → Sent → Sent → Type 0
AreLost put_by old new = ((put_by ≡ []) × (new ≡ old)) ⊎ ((frames : List Frame) × AreNext put_by frames × (new ≡ left_out (length frames) old))

-- A peer is given the encoding of the frames that go to it next, over the link that answered, sealed from their place in the connection
-- on. Or it is given nothing, and the link is closed.
abbrev pub IsGiven : Settings → ℕ → List ℕ → Option (List ℕ) → ForPeers → ForPeers → Type 0
IsGiven config peer answer (Some bytes) old new = (frames : List Frame) × AreNext (put_by_for old peer).frames frames
    × IsEncodingFor old.lock config peer (place_in answer (put_by_for old peer).number) frames bytes
    × OnlyCounts (with_put_by peer (gone_on (length frames) (put_by_for old peer)) old) new
IsGiven config peer answer None old new = (queue : Sent) × AreLost (put_by_for old peer).frames old.queue queue × (new ≡ record (with_put_by peer nothing_put_by old) { queue = queue })

-- ---- all that is held, part by part

-- the most bytes in a part, unless a single version has more
abbrev pub most_of_part : ℕ
most_of_part = 1048576

-- The frame is the next part of all that is held, from where the peer's transfer is, and the transfer goes on behind it.
abbrev pub IsNextPart : InstanceState → Option StateTransfer → Frame → Option StateTransfer → Type 0
IsNextPart held (Some old) frame (Some new) =
    (left : Handout) × (handed : HandedPart) × (left_in old ≡ Some left) × IsHandedOut most_of_part held.silences held.log left handed
    × (frame ≡ part_frame (with_none_left old) handed.state handed.next) × (new ≡ behind_part (with_none_left old) handed.next)
IsNextPart held _ frame _ = ⊥

-- If nothing is put by for a peer, the bytes that its link is given are those of the next part of all that is held.
abbrev pub GivesPart : InstanceState → ℕ → List ℕ → Option (List ℕ) → ForPeers → Option StateTransfer → Option StateTransfer → Type 0
GivesPart held peer answer None was old new = ⊤
GivesPart held peer answer (Some bytes) was old new = (put_by_for was peer).frames ≡ [] →
    (part : Frame) × IsNextPart held old part new × IsEncodingFor was.lock held.config peer (place_in answer (put_by_for was peer).number) (part ∷ []) bytes
