-- The history of a loop, as a member's life.
use Rattle.std.specs.Prelude.{◌≡◌, ◌⊎◌, ◌==◌, ℕ, ◌+◌, ◌<◌, ◌≤◌, false, List, [], ◌∷◌, ◌++◌, Option, Some, ⊤, if◌then◌else◌}
use Rattle.am_http.specs.Sessions.{SessionPhase, fresh}
use Rattle.am_instance.specs.InstanceStates.{InstanceState}
use Rattle.am_member.specs.Lives.{Deed as LifeDeed, IsLife, IsOwnEvent, IsPagingEvent, Turn, session_phases_in, turns_of}
use Rattle.am_member.specs.Lives.Deed.{Served, Own}
use Rattle.am_reactor.specs.declared.service.Service.{Ghosts as Service}
use Rattle.am_reactor.specs.Deeds.{Deed}
use Rattle.am_reactor.specs.History.{Happening, Happens, Line, fed_in, out_in}
use Rattle.am_reactor.specs.History.Happening.{Came, Called}
use Rattle.am_reactor.specs.Streams.{Arrival}

-- ---- connections, each with a number that is never used again

-- the number of connections that came, after a happening
abbrev pub count_after : ℕ → Happening → ℕ
count_after count (Came key) = count + 1
count_after count _ = count

-- the number of the connection under each key, after a happening: how many had come before it
abbrev pub numbers_after : ℕ → (ℕ → ℕ) → Happening → ℕ → ℕ
numbers_after count numbers (Came key) = λ other. if other == key then count else numbers other
numbers_after count numbers _ = numbers

-- the numbers of the connections under their keys, after these happenings
abbrev pub numbers_by : ℕ → (ℕ → ℕ) → List Happening → ℕ → ℕ
numbers_by count numbers [] = numbers
numbers_by count numbers (happening ∷ happenings) = numbers_by (count_after count happening) (numbers_after count numbers happening) happenings

-- the bytes that passed over a connection: those that were fed to its session, and those that went out
pub record Passed : Type 0 where
  pub fed : List ℕ
  pub gone : List ℕ

-- no bytes
abbrev pub nothing_passed : Passed
nothing_passed = record { fed = []; gone = [] }

-- the bytes that passed over a connection, followed by those that pass by these calls
abbrev pub passed_on : Passed → List Deed → Passed
passed_on passed deeds = record { fed = passed.fed ++ fed_in deeds; gone = passed.gone ++ out_in deeds }

-- the bytes that passed over each connection, by its number, after a happening
abbrev pub passed_after : (ℕ → ℕ) → (ℕ → Passed) → Happening → ℕ → Passed
passed_after numbers passed (Called key deeds) = λ number. if number == numbers key then passed_on (passed number) deeds else passed number
passed_after numbers passed _ = passed

-- the bytes that passed over each connection, after these happenings
abbrev pub passed_by : ℕ → (ℕ → ℕ) → (ℕ → Passed) → List Happening → ℕ → Passed
passed_by count numbers passed [] = passed
passed_by count numbers passed (happening ∷ happenings) =
    passed_by (count_after count happening) (numbers_after count numbers happening) (passed_after numbers passed happening) happenings

-- ---- what a member does, as its life

-- The deeds are turns of one connection, and steps for a program that sends pages.
abbrev pub AreOf : ℕ → List LifeDeed → Type 0
AreOf connection [] = ⊤
AreOf connection (Served turn ∷ deeds) = (turn.connection ≡ connection) × AreOf connection deeds
AreOf connection (Own step ∷ deeds) = IsPagingEvent step.event × AreOf connection deeds

-- The deeds are steps that the member made by itself.
abbrev pub AreOwn : List LifeDeed → Type 0
AreOwn [] = ⊤
AreOwn (Served turn ∷ deeds) = ⊥
AreOwn (Own step ∷ deeds) = IsOwnEvent step.event × AreOwn deeds

-- All steps that are no turns are such steps: by itself, or for a program that sends pages.
abbrev pub OwnsItsOwn : List LifeDeed → Type 0
OwnsItsOwn [] = ⊤
OwnsItsOwn (Served turn ∷ deeds) = OwnsItsOwn deeds
OwnsItsOwn (Own step ∷ deeds) = (IsOwnEvent step.event ⊎ IsPagingEvent step.event) × OwnsItsOwn deeds

-- A call that is for no session is steps that the member made by itself.
pub record ActsAlone {S : Type 0} (instance_of : S → InstanceState) (service service' : S) : Type 0 where
  pub deeds : List LifeDeed
  pub own : AreOwn deeds
  pub life : (session_phases : ℕ → SessionPhase) → IsLife session_phases (instance_of service) deeds (instance_of service')

-- Turns of one connection, after these, and steps for a program that sends pages lead the instance on, after which the connection is
-- in accord.
pub record LivesOn (connection : ℕ) (session_phases : ℕ → SessionPhase) (old new : InstanceState) (turns : List Turn) (IsInAccord : SessionPhase → List Turn → Type 0) : Type 0 where
  pub deeds : List LifeDeed
  pub of : AreOf connection deeds
  pub life : IsLife session_phases old deeds new
  pub accord : IsInAccord (session_phases_in session_phases deeds connection) (turns ++ turns_of connection deeds)

module _ {S T : Type 0} (instance_of : S → InstanceState) (accords : T → Passed → SessionPhase → List Turn → Type 0) where
  -- A session begins with a connection over which nothing came.
  pub record BeginsFresh (service : S) (session : T) (service' : S) : Type 0 where
    pub same : instance_of service' ≡ instance_of service
    pub accord : accords session nothing_passed fresh []

  -- A call for a session is turns of its connection, whichever that is, and steps for a program that sends pages.
  abbrev pub DoesForOne : S → T → Deed → S → T → Type 0
  DoesForOne service session deed service' session' =
      (connection : ℕ) (session_phases : ℕ → SessionPhase) (passed : Passed) (turns : List Turn) → accords session passed (session_phases connection) turns
      → LivesOn connection session_phases (instance_of service) (instance_of service') turns (accords session' (passed_on passed (deed ∷ [])))

-- ---- the history of a loop, as a life

-- There is a connection under a key.
abbrev pub StandsUnder : {T C : Type 0} → (ℕ → Option (Line T C)) → ℕ → Type 0
StandsUnder {T} {C} lines key = (line : Line T C) × (lines key ≡ Some line)

-- The bytes that passed over a connection are those of its stream: just the bytes that are told as sent went out over it, and just
-- those that were fed came over it, in their order, and behind them those that were thrown away once the connection was let go.
pub record IsCarried {T C : Type 0} (arrived : C → Arrival) (gone : C → List ℕ) (passed : Passed) (line : Line T C) : Type 0 where
  pub went : gone line.stream ≡ passed.gone
  pub thrown : List ℕ
  pub came : (arrived line.stream).bytes ≡ passed.fed ++ thrown
  pub whole : line.leaves ≡ false → thrown ≡ []

-- The connections accord with a life: each session accords with the bytes that passed over its connection, and with its turns, by
-- its number, and these bytes are those of its stream. No two have the same number, and each number was already given; nothing
-- passed over connections whose number wasn't. For each connection that ever came, `is_so` holds of the bytes that passed over
-- it, of how far it came and of its turns.
pub record Accords {T C : Type 0} (arrived : C → Arrival) (gone : C → List ℕ) (accords : T → Passed → SessionPhase → List Turn → Type 0) (is_so : Passed → SessionPhase → List Turn → Type 0) (count : ℕ) (numbers : ℕ → ℕ)
    (passed : ℕ → Passed) (session_phases : ℕ → SessionPhase) (turns : ℕ → List Turn) (lines : ℕ → Option (Line T C)) : Type 0 where
  pub each : (key : ℕ) (line : Line T C) → lines key ≡ Some line → accords line.session (passed (numbers key)) (session_phases (numbers key)) (turns (numbers key))
  pub carried : (key : ℕ) (line : Line T C) → lines key ≡ Some line → IsCarried arrived gone (passed (numbers key)) line
  pub given : (key : ℕ) → StandsUnder lines key → numbers key < count
  pub apart : (one other : ℕ) → StandsUnder lines one → StandsUnder lines other → numbers one ≡ numbers other → one ≡ other
  pub unused : (number : ℕ) → count ≤ number → (passed number ≡ nothing_passed) × (session_phases number ≡ fresh) × (turns number ≡ [])
  pub ever : (number : ℕ) → is_so (passed number) (session_phases number) (turns number)

-- the number of connections that came, after these happenings
abbrev pub count_by : ℕ → List Happening → ℕ
count_by count [] = count
count_by count (happening ∷ happenings) = count_by (count_after count happening) happenings

-- The history of a loop is the life of a member: turns of its connections, each by its number, and steps that the member made by
-- itself or for a program that sends pages, lead its instance from where it stood to where it stands.
pub record IsLived {S T C : Type 0} (arrived : C → Arrival) (gone : C → List ℕ) (instance_of : S → InstanceState)
    (accords : T → Passed → SessionPhase → List Turn → Type 0) (is_so : Passed → SessionPhase → List Turn → Type 0) (first : S) (happenings : List Happening) (service : S) (lines : ℕ → Option (Line T C)) : Type 0 where
  pub deeds : List LifeDeed
  pub life : IsLife (λ _. fresh) (instance_of first) deeds (instance_of service)
  pub own : OwnsItsOwn deeds
  pub accord : Accords arrived gone accords is_so (count_by 0 happenings) (numbers_by 0 (λ _. 0) happenings) (passed_by 0 (λ _. 0) (λ _. nothing_passed) happenings)
      (session_phases_in (λ _. fresh) deeds) (λ connection. turns_of connection deeds) lines

module _ {S T C : Type 0} (law : Service S T) (acts : S → S → Type 0) (arrived : C → Arrival) (gone : C → List ℕ) (instance_of : S → InstanceState)
    (accords : T → Passed → SessionPhase → List Turn → Type 0) (is_so : Passed → SessionPhase → List Turn → Type 0) (first : S) where
  -- At each moment of a history, behind what had happened before, that is the life of a member.
  abbrev pub IsAlwaysLived : (before : List Happening) (service : S) (lines : ℕ → Option (Line T C)) (happenings : List Happening) (service' : S)
      (lines' : ℕ → Option (Line T C)) → Happens law acts arrived gone service lines happenings service' lines' → Type 0
  IsAlwaysLived before service lines [] service' lines' happens = IsLived arrived gone instance_of accords is_so first before service' lines'
  IsAlwaysLived before service lines (happening ∷ happenings) service' lines' happens = IsLived arrived gone instance_of accords is_so first before service lines
      × IsAlwaysLived (before ++ happening ∷ []) happens.0 happens.1 happenings service' lines' happens.3
