-- Steps of a cluster of replicas, each given by its effect on versions of one type. A run is a list of them.
-- X is the type of versions.
use Rattle.std.specs.Prelude.{◌≡◌, ℕ, List, [], ◌∷◌, ◌++◌, Bool, false, ◌==◌, Option, Some, None, map, length}
use Rattle.std.specs.List.{flat_map}
use Rattle.am_runs.specs.declared.step.DeliverySource.{DeliverySource}

-- Members are numbered from 0. A frame that is sent and lost is one that no later step delivers.
pub data RunStep (X : Type 0) : Type 0 where
  -- an event of a member: the versions that it delivered, in order, and the versions in each frame that it sent
  Took : (place now : ℕ) (source : DeliverySource) (versions : List X) (frames : List (List X)) → RunStep X
  -- a member collected
  Ticked : (place now : ℕ) → RunStep X
  -- a step was refused to a member, because its moment is before that member's last one
  Back : (place now : ℕ) → RunStep X
  -- a step was refused for another cause
  Refused : (now : ℕ) → RunStep X
  -- a member's copy was saved
  Saved : (place : ℕ) → RunStep X
  Stopped : (place : ℕ) → RunStep X
  -- a member was started from its saved copy, or from nothing if none was saved
  Started : (place now : ℕ) → RunStep X

-- a frame in flight: the moment of its sending, and its versions
pub record SentFrame (X : Type 0) : Type 0 where
  pub sent : ℕ
  pub versions : List X

-- `P` holds for each element of a list, with the elements before it
abbrev pub EachStep : {A : Type 0} → List A → (List A → A → Type 0) → Type 0
EachStep {A} steps P = (before : List A) (step : A) (rest : List A) → before ++ step ∷ rest ≡ steps → P before step

-- the element with this number, counted from 0, is the first for which `P` doesn't hold
pub record IsFirstWithout {A : Type 0} (steps : List A) (P : List A → A → Type 0) (number : ℕ) : Type 0 where
  pub before : List A
  pub step : A
  pub rest : List A
  pub parts : before ++ step ∷ rest ≡ steps
  pub place : length before ≡ number
  pub holds : EachStep before P
  pub fails : ¬ P before step

-- the last moment written, after one that may have none
abbrev pub clock_after : ℕ → Option ℕ → ℕ
clock_after clock None = clock
clock_after clock (Some now) = now

module _ {X : Type 0} where
  -- the moment written in a step
  abbrev pub moment : RunStep X → Option ℕ
  moment (Took place now source versions frames) = Some now
  moment (Ticked place now) = Some now
  moment (Back place now) = Some now
  moment (Refused now) = Some now
  moment (Saved place) = None
  moment (Stopped place) = None
  moment (Started place now) = Some now

  -- the last moment written in steps, after a first one
  abbrev pub clock_from : ℕ → List (RunStep X) → ℕ
  clock_from clock [] = clock
  clock_from clock (step ∷ steps) = clock_from (clock_after clock (moment step)) steps

  -- the versions that a step delivered
  abbrev pub delivered_by : RunStep X → List X
  delivered_by (Took place now source versions frames) = versions
  delivered_by (Ticked place now) = []
  delivered_by (Back place now) = []
  delivered_by (Refused now) = []
  delivered_by (Saved place) = []
  delivered_by (Stopped place) = []
  delivered_by (Started place now) = []

  -- the versions delivered anywhere in steps
  abbrev pub delivered_in : List (RunStep X) → List X
  delivered_in steps = flat_map delivered_by steps

  -- the frames that a step sent
  abbrev pub flights_by : RunStep X → List (SentFrame X)
  flights_by (Took place now source versions frames) = map (λ frame. record { sent = now; versions = frame }) frames
  flights_by (Ticked place now) = []
  flights_by (Back place now) = []
  flights_by (Refused now) = []
  flights_by (Saved place) = []
  flights_by (Stopped place) = []
  flights_by (Started place now) = []

  -- all frames ever sent, in order
  abbrev pub flights_of : List (RunStep X) → List (SentFrame X)
  flights_of steps = flat_map flights_by steps

  -- true if the step is one of this member
  abbrev pub is_at : ℕ → RunStep X → Bool
  is_at q (Took place now source versions frames) = place == q
  is_at q (Ticked place now) = place == q
  is_at q (Back place now) = place == q
  is_at q (Refused now) = false
  is_at q (Saved place) = place == q
  is_at q (Stopped place) = place == q
  is_at q (Started place now) = place == q

  -- true if the step was refused to this member because its moment is before the member's last one
  abbrev pub is_back_at : ℕ → RunStep X → Bool
  is_back_at q (Took place now source versions frames) = false
  is_back_at q (Ticked place now) = false
  is_back_at q (Back place now) = place == q
  is_back_at q (Refused now) = false
  is_back_at q (Saved place) = false
  is_back_at q (Stopped place) = false
  is_back_at q (Started place now) = false
