-- The calls that a loop made.
use Rattle.std.specs.Prelude.{◌≡◌, ◌⊎◌, ◌≢◌, ◌==◌, ℕ, zero, suc, Bool, true, false, List, [], ◌∷◌, ◌++◌, Option, None, Some, option_map, if◌then◌else◌}
use Rattle.slab.specs.Slab.{Slab, get}
use Rattle.am_reactor.specs.declared.connection.Connection.{Connection}
use Rattle.am_reactor.specs.declared.connection.Phase.{Phase}
use Rattle.am_reactor.specs.declared.connection.Phase.TheVariants.{Open, Lingering}
use Rattle.am_reactor.specs.declared.fault.LinkFault.{LinkFault}
use Rattle.am_reactor.specs.declared.service.Service.{Ghosts as Service}
use Rattle.am_reactor.specs.Deeds.{Deed, Did}
use Rattle.am_reactor.specs.Deeds.Deed.{Fed, Sent}
use Rattle.am_reactor.specs.Sending.{IsFirstPart}
use Rattle.am_reactor.specs.Streams.{Appends, Arrival, IsSilent, Receives}

-- a connection as its service sees it: a session, its stream, and whether it is let go
pub record Line (T C : Type 0) : Type 0 where
  pub session : T
  pub stream : C
  pub leaves : Bool

-- true if a connection in this phase is let go
abbrev pub leaves_in : Phase → Bool
leaves_in Open = false
leaves_in (Lingering end) = true

-- the line of a connection
abbrev pub line_of : {T C : Type 0} → Connection T C → Line T C
line_of connection = record { session = connection.session; stream = connection.stream; leaves = leaves_in connection.phase }

-- the line under each key of a table
abbrev pub lines : {T C : Type 0} → Slab (Connection T C) → ℕ → Option (Line T C)
lines table key = option_map line_of (get table key)

-- the table with nothing under any key
abbrev pub no_lines : {T C : Type 0} → ℕ → Option (Line T C)
no_lines key = None

-- the table with this line under one key, and the others as they are
abbrev pub with_line : {T C : Type 0} → ℕ → Option (Line T C) → (ℕ → Option (Line T C)) → ℕ → Option (Line T C)
with_line key line old other = if other == key then line else old other

-- two tables are the same under each key
abbrev pub AreSame : {T C : Type 0} → (ℕ → Option (Line T C)) → (ℕ → Option (Line T C)) → Type 0
AreSame new old = (key : ℕ) → new key ≡ old key

-- some connections are closed, and the others are as they were
abbrev pub Closes : {T C : Type 0} → (ℕ → Option (Line T C)) → (ℕ → Option (Line T C)) → Type 0
Closes old new = (key : ℕ) → (new key ≡ old key) ⊎ (new key ≡ None)

-- a connection is let go, and what comes of it is thrown away
pub record Throws {T C : Type 0} (arrived : C → Arrival) (gone : C → List ℕ) (bytes : List ℕ) (line line' : Line T C) : Type 0 where
  pub session : line'.session ≡ line.session
  pub came : Receives (arrived line.stream) (arrived line'.stream) bytes
  pub unwritten : gone line'.stream ≡ gone line.stream
  pub leaves : line'.leaves ≡ true

-- nothing came or went over a connection, and the session is the same
pub record Stays {T C : Type 0} (arrived : C → Arrival) (gone : C → List ℕ) (line line' : Line T C) : Type 0 where
  pub session : line'.session ≡ line.session
  pub unread : arrived line'.stream ≡ arrived line.stream
  pub unwritten : gone line'.stream ≡ gone line.stream
  pub leaves : line'.leaves ≡ line.leaves

-- the same holds of the connection under a key, if there is one, and the others are as they were
abbrev pub StaysUnder : {T C : Type 0} → (C → Arrival) → (C → List ℕ) → ℕ → (ℕ → Option (Line T C)) → (ℕ → Option (Line T C)) → Type 0
StaysUnder {T} {C} arrived gone key old new =
    AreSame new old ⊎ ((line : Line T C) × (line' : Line T C) × (old key ≡ Some line) × Stays arrived gone line line' × AreSame new (with_line key (Some line') old))

-- all the bytes that calls feed
abbrev pub fed_in : List Deed → List ℕ
fed_in [] = []
fed_in (Fed piece ∷ deeds) = piece ++ fed_in deeds
fed_in (_ ∷ deeds) = fed_in deeds

-- all the bytes that went out by calls
abbrev pub out_in : List Deed → List ℕ
out_in [] = []
out_in (Sent piece ∷ deeds) = piece ++ out_in deeds
out_in (_ ∷ deeds) = out_in deeds

-- A call that is for no session: one for no peer either; one that tells that what waited for a peer, or was asked of it, is lost;
-- one that tells what a peer answered; one that asks for more for a peer; or one in which bytes were given for a peer, or were
-- asked of it.
abbrev pub IsCall : {S T : Type 0} → Service S T → S → S → Type 0
IsCall law service service' = law.acts service service'
    ⊎ (((peer : ℕ) × (fault : LinkFault) × law.loses service peer fault service')
    ⊎ (((peer : ℕ) × (bytes : List ℕ) × law.answers service peer bytes service')
    ⊎ (((peer : ℕ) × (answer : List ℕ) × (more : Option (List ℕ)) × law.gives service peer answer more service')
    ⊎ (((peer : ℕ) × (bytes : List ℕ) × law.offers service peer bytes service')
    ⊎ ((peer : ℕ) × (bytes : List ℕ) × law.asks service peer bytes service')))))

-- An event in a loop: a connection comes, under a key that is free, and nothing has passed over its stream; one is turned away
-- because there is no place for it; calls are made for the session under a key, one after the other; bytes come of a connection
-- that is let go, and are thrown away; connections are closed; or calls are made that are for no session.
pub data Happening : Type 0 where
  Came : ℕ → Happening
  TurnedAway : Happening
  Called : ℕ → List Deed → Happening
  Thrown : ℕ → List ℕ → Happening
  Closed : Happening
  Acted : ℕ → Happening

-- this number of calls are made that are for no session, one after the other
abbrev pub Acts : {S : Type 0} → (S → S → Type 0) → ℕ → S → S → Type 0
Acts acts zero service service' = service' ≡ service
Acts {S} acts (suc count) service service' = (next : S) × acts service next × Acts acts count next service'

-- from wherever such calls led to the first service, such calls lead on to the other
abbrev pub ActsOn : {S : Type 0} → (S → S → Type 0) → S → S → Type 0
ActsOn {S} acts service service' = (first : S) → ((count : ℕ) × Acts acts count first service) → (count : ℕ) × Acts acts count first service'

module _ {S T C : Type 0} (law : Service S T) (acts : S → S → Type 0) (arrived : C → Arrival) (gone : C → List ℕ) where
  -- Calls are made for the session of a connection: the bytes that they feed came over its own stream, which isn't let go, and the
  -- bytes that they report as sent went out over it, the first of those that waited.
  pub record Calls (deeds : List Deed) (service : S) (line : Line T C) (service' : S) (line' : Line T C) : Type 0 where
    pub did : Did law.does service line.session deeds service' line'.session
    pub came : Receives (arrived line.stream) (arrived line'.stream) (fed_in deeds)
    pub heard : fed_in deeds ≢ [] → line.leaves ≡ false
    pub went : Appends (gone line.stream) (gone line'.stream) (out_in deeds)
    pub first : IsFirstPart (out_in deeds) (law.pending line.session)
    pub leaves : line'.leaves ≡ line.leaves

  -- a happening leads from one service and its connections to others
  abbrev pub Makes : S → (ℕ → Option (Line T C)) → Happening → S → (ℕ → Option (Line T C)) → Type 0
  Makes service old (Came key) service' new =
      (line : Line T C) × (old key ≡ None) × law.begins service line.session service' × (line.leaves ≡ false) × IsSilent (arrived line.stream) (gone line.stream)
      × AreSame new (with_line key (Some line) old)
  Makes service old TurnedAway service' new = ((session : T) × law.begins service session service') × AreSame new old
  Makes service old (Called key deeds) service' new =
      (line : Line T C) × (line' : Line T C) × (old key ≡ Some line) × Calls deeds service line service' line' × AreSame new (with_line key (Some line') old)
  Makes service old (Thrown key bytes) service' new =
      (line : Line T C) × (line' : Line T C) × (old key ≡ Some line) × Throws arrived gone bytes line line' × (service' ≡ service)
      × AreSame new (with_line key (Some line') old)
  Makes service old Closed service' new = (service' ≡ service) × Closes old new
  Makes service old (Acted count) service' new = Acts acts count service service' × AreSame new old

  -- happenings, one after the other, lead from one service and its connections to others
  abbrev pub Happens : S → (ℕ → Option (Line T C)) → List Happening → S → (ℕ → Option (Line T C)) → Type 0
  Happens service old [] service' new = (service' ≡ service) × AreSame new old
  Happens service old (happening ∷ happenings) service' new =
      (next : S) × (mid : ℕ → Option (Line T C)) × Makes service old happening next mid × Happens next mid happenings service' new

  -- there are happenings that lead from one state to the other
  pub record Leads (service : S) (old : ℕ → Option (Line T C)) (service' : S) (new : ℕ → Option (Line T C)) : Type 0 where
    pub happenings : List Happening
    pub happens : Happens service old happenings service' new

  -- from wherever happenings led to the first state, happenings lead on to the other
  abbrev pub LeadsOn : S → (ℕ → Option (Line T C)) → S → (ℕ → Option (Line T C)) → Type 0
  LeadsOn service old service' new =
      (first : S) (begun : ℕ → Option (Line T C)) → Leads first begun service old → Leads first begun service' new

  -- the same holds if just one connection is looked at, under whichever key
  abbrev pub LeadsUnder : S → Line T C → S → Line T C → Type 0
  LeadsUnder service line service' line' =
      (key : ℕ) (others : ℕ → Option (Line T C)) → LeadsOn service (with_line key (Some line) others) service' (with_line key (Some line') others)
