-- The record of an event in the journal, with the frames that fly after it.
use Rattle.am_wire.specs.declared.unknown.Unknown.TheVariants.{Drop}
use Rattle.std.specs.Prelude.{◌≡◌, ℕ, ◌+◌, ◌<◌, ◌≤◌, List, [], ◌∷◌, ◌++◌, ◌-◌, ◌^◌, length, map}
use Rattle.am_silence.specs.Mesh.{Mesh}
use Rattle.am_nflog.specs.Mesh.{Mesh as LogMesh}
use Rattle.am_gossip.specs.declared.frame.Frame.{Frame}
use Rattle.am_runs.specs.Steps.{RunStep, flights_of}
use Rattle.am_runs.specs.Steps.RunStep.{Took}
use Rattle.am_cluster.specs.BothStates.{log_state, silence_state}
use Rattle.am_cluster.specs.Recorded.{sent_in}
use Rattle.am_cluster.specs.Accounts.{Account}
use Rattle.am_cluster.specs.Reports.{IsPossibleForSilences, IsPossibleForLog}
use Rattle.am_cluster.specs.declared.sending.Sent.{Sent}
use Rattle.am_cluster.specs.declared.writing.Entry.{Entry}
use Rattle.am_cluster.specs.declared.writing.Delivered.{Delivered}

-- the step that an event was to the silences, by the versions that it delivered and the frames that it left in flight
abbrev pub took_silences : Entry → Delivered → List (ℕ × Frame) → RunStep Mesh
took_silences entry versions frames = Took entry.place entry.moment entry.source versions.silences.items (sent_in silence_state Drop frames)

-- the step that an event was to the log
abbrev pub took_entries : Entry → Delivered → List (ℕ × Frame) → RunStep LogMesh
took_entries entry versions frames = Took entry.place entry.moment entry.source versions.log.items (sent_in log_state Drop frames)

-- the versions that were copied of frames are those that they carry
pub record AreSent (sent : Sent) (frames : List (ℕ × Frame)) : Type 0 where
  pub silences : map (λ frame. frame.items) sent.silences.items ≡ sent_in silence_state Drop frames
  pub log : map (λ frame. frame.items) sent.log.items ≡ sent_in log_state Drop frames

-- there is room for the event, and it can have happened
pub record CanWrite (account : Account) (entry : Entry) (versions : Delivered) (frames : List (ℕ × Frame)) : Type 0 where
  pub room_for_it : 0 < account.room
  pub silences : IsPossibleForSilences account.members account.silences (took_silences entry versions frames)
  pub log : IsPossibleForLog account.members account.log (took_entries entry versions frames)

-- the event can be recorded with the frames that were copied, which can be numbered
pub record IsReady (account : Account) (entry : Entry) (versions : Delivered) (sent : Sent) : Type 0 where
  pub frames : List (ℕ × Frame)
  pub copied : AreSent sent frames
  pub numbers : length (flights_of account.silences) + length frames ≤ 2 ^ 64 - 1
  pub can : CanWrite account entry versions frames

-- the event stands at the end of both runs, with its line
pub record IsWritten (old : Account) (entry : Entry) (versions : Delivered) (frames : List (ℕ × Frame)) (new : Account) : Type 0 where
  pub members : new.members ≡ old.members
  pub silences : new.silences ≡ old.silences ++ took_silences entry versions frames ∷ []
  pub log : new.log ≡ old.log ++ took_entries entry versions frames ∷ []
  pub lines : new.lines ≡ old.lines ++ entry.line ∷ []
  pub room : new.room ≡ old.room - 1
