-- The events of a map of versions, and their effect on the map.
-- X is the type of versions, and `seen` is what the merge sees of one.
use Rattle.std.specs.Prelude.{ℕ, ◌≤◌, ◌↔◌, List, [], ◌∷◌, ◌++◌, Option, Contains}
use Rattle.std.specs.List.{flat_map}
use Rattle.std.specs.declared.cmp.Ordering.{Ordering}
use Rattle.am_version_order.specs.Versions.{Version}
use Rattle.am_merge.specs.Maps.{greater_of, if_live, at}

-- an event of a map
pub data MapEvent (X : Type 0) : Type 0 where
  -- a version is taken, live or not
  Delivered : (version : X) → MapEvent X
  -- every version that isn't live is dropped
  Collected : MapEvent X
  -- nothing happens but the passing of time
  Passed : MapEvent X

-- events in the order in which they happened, each with its moment
abbrev pub Events : Type 0 → Type 0
Events X = List (MapEvent X × ℕ)

-- the versions that an event delivers
abbrev pub delivered : {X : Type 0} → MapEvent X → List X
delivered (Delivered v) = v ∷ []
delivered Collected = []
delivered Passed = []

-- the moments at which an event collects
abbrev pub collected : {X : Type 0} → MapEvent X → ℕ → List ℕ
collected (Delivered v) now = []
collected Collected now = now ∷ []
collected Passed now = []

-- the bare set: every version from the start and every one delivered, live or not
abbrev pub taken : {X : Type 0} → List X → Events X → List X
taken start events = start ++ flat_map (λ e. delivered e.0) events

-- bare sets with the same members, in any order and with any repetitions
abbrev pub HaveSame : {X : Type 0} → List X → List X → Type 0
HaveSame {X} set other = (v : X) → (Contains set v) ↔ (Contains other v)

-- the moments of the collections
abbrev pub collections : {X : Type 0} → Events X → List ℕ
collections events = flat_map (λ e. collected e.0 e.1) events

-- the moment of the last event, or that of the start
abbrev pub last_moment : {X : Type 0} → ℕ → Events X → ℕ
last_moment from [] = from
last_moment from (e ∷ events) = last_moment e.1 events

-- no event has a moment before that of the one before it
abbrev pub MoveForward : {X : Type 0} → ℕ → Events X → Type 0
MoveForward from [] = Unit {0}
MoveForward from (e ∷ events) = (from ≤ e.1) × MoveForward e.1 events

-- a map, here, is the function from a key to its version
module _ {K X : Type 0} (seen : X → Version K) (cmp : K → K → Ordering) where
  -- the map after an event: joined with the delivered version, or swept
  abbrev pub after : (K → Option X) → MapEvent X → ℕ → K → Option X
  after map (Delivered v) now key = greater_of seen (map key) (at seen cmp (v ∷ []) key)
  after map Collected now key = if_live seen now (map key)
  after map Passed now key = map key

  -- the map after a list of events
  abbrev pub after_all : (K → Option X) → Events X → K → Option X
  after_all map [] = map
  after_all map (e ∷ events) = after_all (after map e.0 e.1) events
