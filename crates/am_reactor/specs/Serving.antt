-- The work for one connection in a turn.
use Rattle.std.specs.Prelude.{◌≡◌, ℕ, Bool, true, false, List, [], Option, None, Some, ◌⊎◌}
use Rattle.std.specs.declared.time.Instant.{Instant}
use Rattle.am_reactor.specs.declared.connection.Connection.{Connection}
use Rattle.am_reactor.specs.declared.fault.Broken.{Broken}
use Rattle.am_reactor.specs.declared.fault.Failure.{Failure}
use Rattle.am_reactor.specs.Deeds.{Deed}
use Rattle.am_reactor.specs.Reading.{Hears}
use Rattle.am_reactor.specs.Sending.{SendsOn}
use Rattle.am_reactor.specs.Streams.{Arrival}

-- the report of how far a connection has come, and why it is broken off
abbrev pub broken_at : {T C : Type 0} → Connection T C → Failure → Broken
broken_at connection why = record { read = connection.read; written = connection.written; why = why }

-- a reply of a session waits for a moment
abbrev pub IsDeferred : {T : Type 0} → (T → Option Instant → Type 0) → T → Type 0
IsDeferred due session = (moment : Instant) × due session (Some moment)

-- Nothing is left to be done for a session: no more is read, nothing waits to be done, for a commit or for its moment, and all is
-- written.
pub record IsDone {T : Type 0} (over : T → Type 0) (pending : T → List ℕ) (waits is_held_back : T → Bool → Type 0) (due : T → Option Instant → Type 0)
    (session : T) (ended : Bool) : Type 0 where
  pub read : (ended ≡ true) ⊎ over session
  pub idle : waits session false
  pub committed : is_held_back session false
  pub undeferred : due session None
  pub written : pending session ≡ []

module _ {S T C : Type 0} (does : S → T → Deed → S → T → Type 0) (pending : T → List ℕ) (arrived : C → Arrival) (gone : C → List ℕ) where
  -- The first bytes that wait in the session of a connection went out over its own stream, and nothing is read.
  pub record Tells (service : S) (connection : Connection T C) (service' : S) (connection' : Connection T C) : Type 0 where
    pub sent : SendsOn does pending service connection.session service' connection'.session (gone connection.stream) (gone connection'.stream)
        connection.written connection'.written
    pub unread : arrived connection'.stream ≡ arrived connection.stream
    pub read : connection'.read ≡ connection.read
    pub ended : connection'.ended ≡ connection.ended
    pub phase : connection'.phase ≡ connection.phase

  -- the input of a connection is told, and then the bytes that wait go out
  pub record Exchanges (room : ℕ) (service : S) (connection : Connection T C) (service' : S) (connection' : Connection T C) : Type 0 where
    pub mid : S
    pub at : Connection T C
    pub heard : Hears does arrived gone room service connection mid at
    pub told : Tells mid at service' connection'
