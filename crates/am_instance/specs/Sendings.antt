-- The frames that a step sends.
use Rattle.std.specs.Prelude.{◌≡◌, ◌⊎◌, ℕ, ◌+◌, ◌-◌, ◌^◌, min, true, false, List, [], ◌∷◌, ◌++◌, map, length}
use Rattle.std.specs.List.{flat_map}
use Rattle.am_version_order.specs.Versions.{Version}
use Rattle.am_wire.specs.Writing.{delimited}
use Rattle.am_silence.specs.Mesh.{Mesh, mesh_version}
use Rattle.am_nflog.specs.Mesh.{Mesh as LogMesh, mesh_version as entry_version}
use Rattle.am_gossip.specs.declared.frame.Frame.{Frame}
use Rattle.am_gossip.specs.declared.frame.Frame.TheVariants.{Delta, Push, Pull}
use Rattle.am_gossip.specs.declared.frame.Part.{Part}
use Rattle.am_gossip.specs.declared.frame.StateKey.{StateKey}
use Rattle.am_gossip.specs.declared.frame.StateKey.TheVariants.{Sil, Nfl}
use Rattle.am_gossip.specs.Frames.{fits, states}
use Rattle.am_snapshot.specs.Encodings.{row_encoding}
use Rattle.am_instance.specs.declared.frame_sender.ExchangeRole.{ExchangeRole}
use Rattle.am_instance.specs.declared.frame_sender.ExchangeRole.TheVariants.{Ask, Answer}
use Rattle.am_instance.specs.declared.reply.Outcome.{Outcome}
use Rattle.am_instance.specs.Deliveries.{Delivery}
use Rattle.am_instance.specs.Deliveries.Delivery.{OfSilence, OfEntry}

-- frames with the places that they go to, and the numbers of those left out for lack of memory and by the limit of their kind
pub record Sent : Type 0 where
  pub frames : List (ℕ × Frame)
  pub memory : ℕ
  pub limit : ℕ

-- no frames, and none left out
abbrev pub nothing_sent : Sent
nothing_sent = record { frames = []; memory = 0; limit = 0 }

-- a count, which stops at the greatest number of 64 bits
abbrev pub capped : ℕ → ℕ
capped n = min n (2 ^ 64 - 1)

-- a count plus one
abbrev pub one_more : ℕ → ℕ
one_more n = capped (n + 1)

-- a frame is handed out
abbrev pub handed_out : ℕ × Frame → Sent → Sent
handed_out wanted sent = record sent { frames = sent.frames ++ wanted ∷ [] }

-- there is no memory for a frame, and it is counted as such
abbrev pub no_memory : Sent → Sent
no_memory sent = record sent { memory = one_more sent.memory }

-- a frame is over its limit, and it is counted as such
abbrev pub over_limit : Sent → Sent
over_limit sent = record sent { limit = one_more sent.limit }

-- the frames of another follow those before
abbrev pub with_more : Sent → Sent → Sent
with_more before more = record {
  frames = before.frames
      ++ more.frames;
  memory = capped (before.memory + more.memory);
  limit = capped (before.limit + more.limit);
}

-- there is no memory for the frames of another, and they are counted
abbrev pub without_more : Sent → Sent → Sent
without_more before more = record {
  frames = before.frames;
  memory = capped
      (capped (before.memory + more.memory) + length more.frames);
  limit = capped (before.limit + more.limit);
}

-- the frames of another are added: they are kept, or there is no memory for them
abbrev pub Gathers : Sent → Sent → Sent → Type 0
Gathers more before after = (after ≡ with_more before more) ⊎ (after ≡ without_more before more)

-- A wanted frame is handed out or counted: one that keeps its limit is handed out, unless there is no memory for it; any other
-- is counted as over its limit, however much memory there is.
pub record IsSent (wanted : ℕ × Frame) (old new : Sent) : Type 0 where
  pub fitting : fits wanted.1 ≡ true → (new ≡ handed_out wanted old) ⊎ (new ≡ no_memory old)
  pub too_long : fits wanted.1 ≡ false → new ≡ over_limit old

-- each of the wanted frames is sent in turn
abbrev pub Sends : List (ℕ × Frame) → Sent → Sent → Type 0
Sends [] old new = new ≡ old
Sends (wanted ∷ rest) old new = (mid : Sent) × IsSent wanted old mid × Sends rest mid new

-- ---- frames

-- a Delta of one version
abbrev pub delta : StateKey → List ℕ → Frame
delta key content = Delta (record { key = key; bytes = delimited content })

-- the Delta of a version of either state
abbrev pub delta_of : Delivery → Frame
delta_of (OfSilence v) = delta Sil (mesh_version v).content
delta_of (OfEntry e) = delta Nfl (entry_version e).content

-- a frame to each of the places, in their order
abbrev pub addressed : List ℕ → Frame → List (ℕ × Frame)
addressed places frame = map (λ place. (place, frame)) places

-- for each version in turn, a Delta to each of the places
abbrev pub deltas_to : List ℕ → List Delivery → List (ℕ × Frame)
deltas_to places ds = flat_map (λ d. addressed places (delta_of d)) ds

-- both whole maps, including versions that aren't live
abbrev pub whole_state : List Mesh → List LogMesh → List Part
whole_state silences log = states (row_encoding mesh_version silences) (row_encoding entry_version log)

-- the frame that carries both states
abbrev pub states_frame : ExchangeRole → List Part → Frame
states_frame Ask parts = Push parts
states_frame Answer parts = Pull parts

-- for each version of one state in turn, a Delta to each of the places
abbrev pub deltas_of : {K X : Type 0} → (X → Version K) → StateKey → List ℕ → List X → List (ℕ × Frame)
deltas_of seen key places vs = flat_map (λ v. addressed places (delta key (seen v).content)) vs

-- the frames that an outcome sends, and the numbers of those that it doesn't
abbrev pub sent_by : Outcome → Sent
sent_by outcome = record { frames = outcome.frames.items; memory = outcome.unsent.memory; limit = outcome.unsent.limit }
