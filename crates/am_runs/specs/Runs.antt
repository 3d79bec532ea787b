-- The lists of steps that are runs of a cluster, and the condition under which a run is calm.
-- X is the type of versions, and `seen` is what the merge sees of one.
use Rattle.std.specs.Prelude.{◌≡◌, ◌⊎◌, ◌++◌, ℕ, ◌<◌, ◌≤◌, List, [], ◌∷◌, true, false, ◌&&◌, Option, Some}
use Rattle.std.specs.Prelude.{if◌then◌else◌, slice_get, IsSomeAnd, All, Contains}
use Rattle.std.specs.declared.cmp.Ordering.{Ordering}
use Rattle.am_version_order.specs.Versions.{Version, is_live}
use Rattle.am_merge.specs.Maps.{is_above}
use Rattle.am_collect.specs.Events.{after}
use Rattle.am_collect.specs.Events.MapEvent.{Delivered}
use Rattle.am_collect.specs.Calm.{IsCalm}
use Rattle.am_runs.specs.declared.step.DeliverySource.{DeliverySource}
use Rattle.am_runs.specs.declared.step.DeliverySource.TheVariants.{Made, Written, Arrived, Lent}
use Rattle.am_runs.specs.Steps.{RunStep, EachStep, IsFirstWithout, flights_of, is_back_at}
use Rattle.am_runs.specs.Steps.RunStep.{Took, Ticked, Back, Refused, Saved, Stopped, Started}
use Rattle.am_runs.specs.Members.{passes, member_of, last_of, map_of}

module _ {K X : Type 0} (seen : X → Version K) (cmp : K → K → Ordering) where
  -- those of versions taken one after another whose taking gives Changed: each is live, and greater than the held version or
  -- the first of its key
  abbrev pub changed : ℕ → (K → Option X) → List X → List X
  changed now held [] = []
  changed now held (v ∷ vs) = (if is_live now (seen v) && is_above seen (held (seen v).key) v then v ∷ [] else [])
      ++ changed now (after seen cmp held (Delivered v) now) vs

  -- the versions come from their source: they were made now; or they were written in a frame that counts as sent no later than
  -- any of them was made; or they stand in the frame with that number; or a running member lent them from its map
  abbrev pub AreFrom : ℕ → List (RunStep X) → ℕ → DeliverySource → List X → Type 0
  AreFrom members before now Made versions = All (λ v. (seen v).updated ≡ now) versions
  AreFrom members before now (Written sent) versions = All (λ v. sent ≤ (seen v).updated) versions
  AreFrom members before now (Arrived number) versions =
      IsSomeAnd (slice_get (flights_of before) number) (λ flight. All (Contains flight.versions) versions)
  AreFrom members before now (Lent place) versions =
      ((member_of members place before).runs ≡ true)
      × All (λ v. map_of seen cmp (member_of members place before).past (seen v).key ≡ Some v) versions

  -- each version of a frame gave Changed in the event that sent it, or is held after that event
  abbrev pub IsSent : ℕ → List (RunStep X) → ℕ → ℕ → List X → List X → Type 0
  IsSent members before place now versions frame =
      let past = (member_of members place before).past in
      All (λ v. (Contains (changed now (map_of seen cmp past) versions) v)
      ⊎ (map_of seen cmp (past ++ passes now versions) (seen v).key ≡ Some v)) frame

  -- the member runs, and the moment isn't before its last one
  pub record CanAct (members : ℕ) (before : List (RunStep X)) (place now : ℕ) : Type 0 where
    pub runs : (member_of members place before).runs ≡ true
    pub forward : last_of (member_of members place before) ≤ now

  -- an event can have delivered these versions and sent these frames
  pub record CanTake (members : ℕ) (before : List (RunStep X)) (place now : ℕ) (source : DeliverySource) (versions : List X)
      (frames : List (List X)) : Type 0 where
    pub acts : CanAct members before place now
    pub from : AreFrom members before now source versions
    pub sent : All (IsSent members before place now versions) frames

  -- a stopped member can have been started
  pub record CanStart (members : ℕ) (before : List (RunStep X)) (place now : ℕ) : Type 0 where
    pub member : place < members
    pub stopped : (member_of members place before).runs ≡ false
    pub forward : last_of (member_of members place before) ≤ now

  -- the step can have happened after the steps before it
  abbrev pub IsPossible : ℕ → List (RunStep X) → RunStep X → Type 0
  IsPossible members before (Took place now source versions frames) = CanTake members before place now source versions frames
  IsPossible members before (Ticked place now) = CanAct members before place now
  IsPossible members before (Back place now) = now < last_of (member_of members place before)
  IsPossible members before (Refused now) = Unit {0}
  IsPossible members before (Saved place) = (member_of members place before).runs ≡ true
  IsPossible members before (Stopped place) = (member_of members place before).runs ≡ true
  IsPossible members before (Started place now) = CanStart members before place now

  -- the steps are a run of a cluster with that many members
  abbrev pub IsRun : ℕ → List (RunStep X) → Type 0
  IsRun members steps = EachStep steps (IsPossible members)

module _ {K X : Type 0} (seen : X → Version K) where
  -- after this step the events of the member's past are calm, and the step wasn't refused for a moment before the member's last one
  pub record IsCalmStep (members q : ℕ) (before : List (RunStep X)) (step : RunStep X) : Type 0 where
    pub past : IsCalm seen [] 0 (member_of members q (before ++ step ∷ [])).past
    pub forward : is_back_at q step ≡ false

  -- the member is calm: it was so after each step so far, those before a restart included
  abbrev pub IsCalmAt : ℕ → ℕ → List (RunStep X) → Type 0
  IsCalmAt members q steps = EachStep steps (IsCalmStep members q)

  -- the step with this number, counted from 0, is the first after which the member is not calm
  abbrev pub IsFirstFault : ℕ → ℕ → List (RunStep X) → ℕ → Type 0
  IsFirstFault members q steps number = IsFirstWithout steps (IsCalmStep members q) number
