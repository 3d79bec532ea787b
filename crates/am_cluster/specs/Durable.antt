-- Members that lose nothing by a restart: those that are saved behind each step that brings them something live.
-- X is the type of versions, and `seen` is what the merge sees of one.
use Rattle.std.specs.Prelude.{◌≡◌, ◌+◌, ◌≤◌, ◌++◌, ℕ, List, [], ◌∷◌, Bool, true, false, ◌==◌, if◌then◌else◌, All, Contains, IfSome}
use Rattle.std.specs.List.{flat_map, list_any}
use Rattle.am_version_order.specs.Versions.{Version, IsLive, is_below}
use Rattle.am_runs.specs.Members.{member_of}
use Rattle.am_runs.specs.Steps.{RunStep, EachStep, delivered_in, moment}
use Rattle.am_runs.specs.Steps.RunStep.{Took, Ticked, Back, Refused, Saved, Stopped, Started}
use Rattle.am_runs.specs.Timely.{HasCaughtUp, IsOnward, IsSwift}

-- true if a step starts a member
abbrev pub starts : {X : Type 0} → ℕ → RunStep X → Bool
starts q (Took place now source versions frames) = false
starts q (Ticked place now) = false
starts q (Back place now) = false
starts q (Refused now) = false
starts q (Saved place) = false
starts q (Stopped place) = false
starts q (Started place now) = place == q

-- true if a step saves a member
abbrev pub saves : {X : Type 0} → ℕ → RunStep X → Bool
saves q (Took place now source versions frames) = false
saves q (Ticked place now) = false
saves q (Back place now) = false
saves q (Refused now) = false
saves q (Saved place) = place == q
saves q (Stopped place) = false
saves q (Started place now) = false

-- the versions that a step brings a member
abbrev pub came_by : {X : Type 0} → ℕ → RunStep X → List X
came_by q (Took place now source versions frames) = if place == q then versions else []
came_by q _ = []

-- all versions that ever came to a member, whatever it has lost since
abbrev pub came : {X : Type 0} → ℕ → List (RunStep X) → List X
came q steps = flat_map (came_by q) steps

module _ {K X : Type 0} (seen : X → Version K) where
  -- a step brings a member a version that is live then
  abbrev pub BringsLive : ℕ → RunStep X → X → Type 0
  BringsLive q (Took place now source versions frames) v = ((place == q) ≡ true) × Contains versions v × IsLive now (seen v)
  BringsLive q _ v = ⊥

  -- a version came to a member while it was live
  pub record CameLive (q : ℕ) (steps : List (RunStep X)) (v : X) : Type 0 where
    pub before : List (RunStep X)
    pub step : RunStep X
    pub rest : List (RunStep X)
    pub parts : before ++ step ∷ rest ≡ steps
    pub brings : BringsLive q step v

  -- behind each step that brought the member something live stands a save of it
  abbrev pub IsSaved : ℕ → List (RunStep X) → Type 0
  IsSaved q steps = (v : X) (coming : CameLive q steps v) → list_any (saves q) coming.rest ≡ true

  -- The member is durable: it is started only when it is saved like that.
  abbrev pub IsDurable : ℕ → List (RunStep X) → Type 0
  IsDurable q steps = EachStep steps (λ before step. starts q step ≡ true → IsSaved q before)

  -- a version, or a greater one of its key, came to the member while that was live
  pub record HasComeLive (q : ℕ) (steps : List (RunStep X)) (v : X) : Type 0 where
    pub version : X
    pub live : CameLive q steps version
    pub same_key : (seen version).key ≡ (seen v).key
    pub not_below : is_below (seen version) (seen v) ≡ false

  -- each version made a spread before this moment or earlier, or a greater one of its key, has once come to every member that runs
  abbrev pub HaveCome : ℕ → ℕ → List X → List (RunStep X) → ℕ → Type 0
  HaveCome spread members all before now =
      (v : X) → Contains all v → (seen v).updated + spread ≤ now →
      (q : ℕ) → (member_of members q before).runs ≡ true → HasCaughtUp seen (came q before) v

  -- The run keeps the spread and the flight time as if no start lost anything: it only counts that a version came once.
  pub record IsTimelyByWhatCame (spread flight members : ℕ) (steps : List (RunStep X)) : Type 0 where
    pub onward : EachStep steps IsOnward
    pub lasting : All (λ v. ((seen v).updated + spread) + flight ≤ (seen v).expires) (delivered_in steps)
    pub swift : EachStep steps (IsSwift flight)
    pub have_come : EachStep steps (λ before step. IfSome (moment step) (HaveCome spread members (delivered_in steps) before))
