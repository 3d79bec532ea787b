-- The frames that wait for peers, as contracts see them.
use Rattle.std.specs.Prelude.{◌≡◌, ◌⊎◌, ℕ, ◌+◌, List, [], ◌++◌, length, slice_get, Option, Some, None, IsSomeAnd, Result, Ok, Err}
use Rattle.std.specs.List.{flat_map}
use Rattle.am_gossip.specs.declared.frame.Frame.{Frame}
use Rattle.am_gossip.specs.Frames.{frame_encoding}
use Rattle.am_gossip.specs.declared.refusals.StepError.{StepError}
use Rattle.am_instance.specs.Configs.{Settings}
use Rattle.am_instance.specs.declared.reply.Outcome.{Outcome}
use Rattle.am_instance.specs.Sendings.{Gathers, Sent, capped, sent_by}
use Rattle.am_peer_auth.specs.declared.seal.Lock.{Lock}
use Rattle.am_peer_auth.specs.declared.sequence.Sequence.{Sequence}
use Rattle.am_peer_auth.specs.Seals.{sealed_frames}
use Rattle.am_peers.specs.Queues.{frames_beside, frames_for}
use Rattle.am_backend.specs.declared.system_backend.SystemBackend.{SystemBackend}

module _ {R : Type 0} where
  -- the frames that wait for peers, each with the place of its peer, in order, and the numbers of those that aren't sent, for lack
  -- of memory and by the limit of their kind
  abbrev pub outbound_of : SystemBackend R → Sent
  outbound_of backend = record { frames = backend.queue.items; memory = backend.figures.unsent_memory; limit = backend.figures.unsent_limit }

-- the frames for peers: those for other places than that of the disk, if there is one
abbrev pub for_peers : Option ℕ → List (ℕ × Frame) → List (ℕ × Frame)
for_peers None frames = frames
for_peers (Some disk) frames = frames_beside disk frames

-- the frames that wait, once these wait behind the others
abbrev pub with_queued : List (ℕ × Frame) → Sent → Sent
with_queued frames sent = record sent { frames = sent.frames ++ frames }

-- the frames that are sent to peers
abbrev pub to_peers : Option ℕ → Sent → Sent
to_peers disk sent = record sent { frames = for_peers disk sent.frames }

-- the frames that wait, once this many more aren't sent for lack of memory
abbrev pub left_out : ℕ → Sent → Sent
left_out count sent = record sent { memory = capped (sent.memory + count) }

-- The frames that are sent to peers wait behind those that waited, in order; or memory ran out, and just they are counted.
abbrev pub IsQueued : Option ℕ → Sent → Sent → Sent → Type 0
IsQueued disk sent old new = Gathers (to_peers disk sent) old new

-- The frames that a step sends to peers are queued, and a step that was refused sends none.
abbrev pub IsSentOn : Option ℕ → Result Outcome StepError → Sent → Sent → Type 0
IsSentOn disk (Ok outcome) old new = IsQueued disk (sent_by outcome) old new
IsSentOn disk (Err error) old new = new ≡ old

-- The frames for the peer of the first one are taken out, in order, and those for others wait on.
pub record IsTaken (peer : ℕ) (frames : List Frame) (old new : Sent) : Type 0 where
  pub first : IsSomeAnd (slice_get old.frames 0) (λ queued. queued.0 ≡ peer)
  pub all : frames ≡ frames_for peer old.frames
  pub rest : new ≡ record old { frames = frames_beside peer old.frames }

-- No frame waits any more: none did, or memory ran out, and all that did are counted.
abbrev pub AreGone : Sent → Sent → Type 0
AreGone old new = ((old.frames ≡ []) × (new ≡ old)) ⊎ (new ≡ record (left_out (length old.frames) old) { frames = [] })

-- The bytes are the encoding of frames as it goes to a peer: that of the frames, or what is sealed for the peer's name from a place in
-- its connection on.
abbrev pub IsEncodingFor : Option Lock → Settings → ℕ → Option Sequence → List Frame → List ℕ → Type 0
IsEncodingFor None config peer from frames bytes = bytes ≡ flat_map frame_encoding frames
IsEncodingFor (Some lock) config peer from frames bytes = (name : List ℕ) × (place : Sequence) × (slice_get config.members peer ≡ Some name) × (from ≡ Some place)
    × (bytes ≡ sealed_frames lock name place frames)
