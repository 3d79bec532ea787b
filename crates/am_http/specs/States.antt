-- The state of a session.
use Rattle.std.specs.Prelude.{ℕ, ◌<◌, List, [], ◌∷◌, length, Option, None, Some, string_bytes, ⊤}
use Rattle.std.specs.Option.{IsSome, option_map}
use Rattle.am_gossip.specs.declared.error.FrameError.{FrameError}
use Rattle.am_gossip.specs.Streams.{rest_bytes}
use Rattle.am_http.specs.Requests.{IsUnfinished}
use Rattle.am_http.specs.declared.session.fault.SessionFault.{SessionFault}
use Rattle.am_http.specs.declared.session.fault.SessionFault.TheVariants.{TooLarge, Frame as InFrame}
use Rattle.am_http.specs.declared.session.state.SessionState.{SessionState}
use Rattle.am_http.specs.declared.session.state.SessionState.TheVariants.{Fresh, Asking, Greeting, Hearing, Over}
use Rattle.am_http.specs.Sessions.{SessionPhase, fresh, InRequest, InGreeting, InFrames, over}

-- the progress of the connection
abbrev pub phase_in : SessionState → SessionPhase
phase_in Fresh = fresh
phase_in (Asking bytes) = InRequest bytes.items
phase_in (Greeting bytes) = InGreeting bytes.items
phase_in (Hearing h) = InFrames (string_bytes h.name) h.count (rest_bytes h.feeder)
phase_in (Over name) = over (option_map string_bytes name)

-- a request that was begun isn't decided, and a stream that goes on has had no fault
abbrev pub IsSound : SessionState → Type 0
IsSound (Asking bytes) = (0 < length bytes.items) × IsUnfinished bytes.items
IsSound (Hearing h) = IsSome h.feeder
IsSound _ = ⊤

-- the reason that nothing more is heard after a piece: its fault, or a byte beyond the limit
abbrev pub ended_by : Option FrameError → List ℕ → Option SessionFault
ended_by (Some e) lost = Some (InFrame e)
ended_by None [] = None
ended_by None (_ ∷ _) = Some TooLarge
