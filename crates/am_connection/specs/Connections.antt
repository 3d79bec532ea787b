-- The course of a connection over a reader and a writer.
use Rattle.std.specs.Prelude.{◌≡◌, ◌⊎◌, ◌||◌, ℕ, ◌+◌, ◌<◌, List, [], ◌∷◌, length, Option, None, Some}
use Rattle.std.specs.List.{flat_map}
use Rattle.std.specs.Option.{IsSome, option_or}
use Rattle.std.specs.Io.KnownBytes.{Appends, Consumes, IsAtEnd}
use Rattle.am_wire.specs.OutputWriting.{WritesPart}
use Rattle.am_http.specs.Sessions.{IsOver, Spoken, SessionPhase, fresh, most_bytes, name_of}
use Rattle.am_instance.specs.InstanceStates.{InstanceState}
use Rattle.am_instance.specs.Sendings.{Gathers}
use Rattle.am_api_silences.specs.ReplyBuilder.{IsMadeOf}
use Rattle.am_api_silences.specs.Replies.{bytes_of}
use Rattle.am_api_silences.specs.declared.reply_builder.ReplyBuilder.{ReplyBuilder}
use Rattle.am_api_silences.specs.declared.replies.ResponseBytes.{ResponseBytes}
use Rattle.am_peers.specs.declared.fault.ConnectionFault.{ConnectionFault}
use Rattle.am_peers.specs.declared.fault.ConnectionFault.TheVariants.{Read, TooLarge, Write}
use Rattle.am_member.specs.Exchanging.{IsSessionAnswer, left_at}
use Rattle.am_member.specs.Incoming.{no_effects}
use Rattle.am_member.specs.Lives.{Came, Tells}
use Rattle.am_member.specs.Lives.Came.{AtEnd, Fed}
use Rattle.am_member.specs.declared.session_answer.SessionAnswer.{SessionAnswer}
use Rattle.am_member.specs.declared.session_answer.StepEffects.{StepEffects}
use Rattle.am_connection.specs.declared.ended.Ended.{Ended}

-- the progress of a connection: what its session has heard, the instance, the effects of its steps besides, and what was
-- written
pub record Stand : Type 0 where
  pub session : SessionPhase
  pub instance : InstanceState
  pub effects : StepEffects
  pub written : Option (List ℕ)

abbrev pub stand : SessionPhase → InstanceState → StepEffects → Option (List ℕ) → Stand
stand session instance effects written = record { session = session; instance = instance; effects = effects; written = written }

-- ---- a piece

-- the input of a piece: its bytes, or the end of the input if it has none
abbrev pub came_of : List ℕ → Came
came_of [] = AtEnd
came_of (byte ∷ bytes) = Fed (byte ∷ bytes)

-- the effects with those of more steps added
pub record AddsAll (more before after : StepEffects) : Type 0 where
  -- the frames that the steps send
  pub sent : Gathers more.outbox before.outbox after.outbox
  -- true if a Tick was among them
  pub ticked : after.ticked ≡ (before.ticked || more.ticked)

-- a reply goes out, or exactly as many of its first bytes as are counted if a write failed; if there is no reply, nothing goes out
abbrev pub GoesOut : Option ReplyBuilder → Option (List ℕ) → Option (List ℕ) → Option ConnectionFault → Type 0
GoesOut None before after fault = (after ≡ before) × (fault ≡ None)
GoesOut (Some making) before after None = (reply : ResponseBytes) × IsMadeOf making reply × Appends before after (bytes_of reply)
GoesOut (Some making) before after (Some (Write written)) =
    (reply : ResponseBytes) × IsMadeOf making reply × WritesPart before after (bytes_of reply) written
GoesOut (Some making) before after (Some _) = ⊥

-- the outcome of one piece, or of the end of the input
pub record IsTurn (bits now : ℕ) (piece : List ℕ) (before after : Stand) (fault : Option ConnectionFault) : Type 0 where
  -- the session says this of it
  pub said : Spoken
  pub heard : SessionPhase
  pub tells : Tells before.session (came_of piece) said heard
  -- this is answered by steps at this moment
  pub answer : SessionAnswer
  pub answered : IsSessionAnswer (name_of heard) bits now said before.instance after.instance answer
  pub session : after.session ≡ left_at answer.fault heard
  -- their effects are added
  pub adds : AddsAll answer.effects before.effects after.effects
  -- the reply goes out
  pub stop : Option ConnectionFault
  pub written : GoesOut answer.reply before.written after.written stop
  -- the fault is told, or else that of the write
  pub told : fault ≡ option_or answer.fault stop

-- ---- all pieces

-- the bytes of pieces
abbrev pub joined : List (List ℕ) → List ℕ
joined pieces = flat_map (λ piece. piece) pieces

-- pieces that came one after the other, none of them at fault
abbrev pub AreTurns : ℕ → ℕ → List (List ℕ) → Stand → Stand → Type 0
AreTurns bits now [] before after = after ≡ before
AreTurns bits now (piece ∷ pieces) before after = (mid : Stand) × IsTurn bits now piece before mid None × AreTurns bits now pieces mid after

-- a read failed, after `count` bytes had come
pub record FailsToRead (count : ℕ) (input left : Option (List ℕ)) (before after : Stand) (fault : Option ConnectionFault) : Type 0 where
  pub nothing : Consumes input left []
  pub same : after ≡ before
  pub told : fault ≡ Some (Read count)

-- nothing more is heard behind the last piece: it is the end of the input, or at fault, or all was said
pub record IsLast (piece : List ℕ) (after : Stand) (stop fault : Option ConnectionFault) : Type 0 where
  pub why : (piece ≡ []) ⊎ (IsSome stop ⊎ IsOver after.session)
  pub told : fault ≡ stop

-- more bytes came than a connection may have
pub record IsTooLarge (count : ℕ) (stop fault : Option ConnectionFault) : Type 0 where
  pub many : most_bytes < count
  pub none : stop ≡ None
  pub told : fault ≡ Some TooLarge

-- the last piece came, behind `count` bytes
pub record EndsWith (bits now count : ℕ) (input left : Option (List ℕ)) (before after : Stand) (fault : Option ConnectionFault) : Type 0 where
  pub piece : List ℕ
  pub consumed : Consumes input left piece
  pub at_end : piece ≡ [] → IsAtEnd left
  pub stop : Option ConnectionFault
  pub turn : IsTurn bits now piece before after stop
  pub ends : IsLast piece after stop fault ⊎ IsTooLarge (count + length piece) stop fault

-- the outcome of all pieces over a reader and a writer
pub record IsConversed (bits now : ℕ) (input left : Option (List ℕ)) (before after : Stand) (fault : Option ConnectionFault) : Type 0 where
  -- pieces come that are not at fault, one after the other
  pub pieces : List (List ℕ)
  pub mid_input : Option (List ℕ)
  pub consumed : Consumes input mid_input (joined pieces)
  pub mid : Stand
  pub turns : AreTurns bits now pieces before mid
  -- behind them a read fails, or the last piece comes
  pub ending : FailsToRead (length (joined pieces)) mid_input left mid after fault
      ⊎ EndsWith bits now (length (joined pieces)) mid_input left mid after fault

-- ---- a connection

-- the effects of a connection's steps
abbrev pub effects_of : Ended → StepEffects
effects_of ended = record {
  outbox = record { frames = ended.frames.items; memory = ended.unsent.memory; limit = ended.unsent.limit };
  ticked = ended.ticked;
}

-- The outcome of a connection, from its first byte on: its frames, whether there was a Tick, and its fault are those of its pieces.
abbrev pub IsConnection : ℕ → ℕ → Option (List ℕ) → Option (List ℕ) → InstanceState → InstanceState → Option (List ℕ) → Option (List ℕ) → Ended → Type 0
IsConnection bits now input left old new before after ended =
    (session : SessionPhase) × IsConversed bits now input left (stand fresh old no_effects before) (stand session new (effects_of ended) after) ended.fault
