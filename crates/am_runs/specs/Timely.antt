-- Runs that keep two times: each version comes to all members within the spread, and no frame flies for longer than the flight
-- time.
-- X is the type of versions, and `seen` is what the merge sees of one.
use Rattle.std.specs.Prelude.{◌≡◌, ℕ, ◌+◌, ◌≤◌, List, true, false, IfSome, slice_get, All, Contains}
use Rattle.am_version_order.specs.Versions.{Version, is_below}
use Rattle.am_runs.specs.declared.step.DeliverySource.{DeliverySource}
use Rattle.am_runs.specs.declared.step.DeliverySource.TheVariants.{Made, Written, Arrived, Lent}
use Rattle.am_runs.specs.Steps.{RunStep, SentFrame, EachStep, moment, clock_from, delivered_in, flights_of}
use Rattle.am_runs.specs.Steps.RunStep.{Took, Ticked, Back, Refused, Saved, Stopped, Started}
use Rattle.am_runs.specs.Members.{member_of, set_of}

module _ {X : Type 0} where
  -- the moment isn't before the last one written
  abbrev pub IsOnward : List (RunStep X) → RunStep X → Type 0
  IsOnward before step = IfSome (moment step) (λ now. clock_from 0 before ≤ now)

  -- versions in a frame came in time; versions made now, or lent in a settle, take no time
  abbrev pub IsSwiftFrom : ℕ → List (SentFrame X) → ℕ → DeliverySource → Type 0
  IsSwiftFrom flight flights now Made = Unit {0}
  IsSwiftFrom flight flights now (Written sent) = now ≤ sent + flight
  IsSwiftFrom flight flights now (Arrived number) = IfSome (slice_get flights number) (λ f. now ≤ f.sent + flight)
  IsSwiftFrom flight flights now (Lent place) = Unit {0}

  -- a frame is delivered no later than the flight time after it was sent
  abbrev pub IsSwift : ℕ → List (RunStep X) → RunStep X → Type 0
  IsSwift flight before (Took place now source versions frames) = IsSwiftFrom flight (flights_of before) now source
  IsSwift flight before (Ticked place now) = Unit {0}
  IsSwift flight before (Back place now) = Unit {0}
  IsSwift flight before (Refused now) = Unit {0}
  IsSwift flight before (Saved place) = Unit {0}
  IsSwift flight before (Stopped place) = Unit {0}
  IsSwift flight before (Started place now) = Unit {0}

module _ {K X : Type 0} (seen : X → Version K) where
  -- the set has the version, or a greater one of its key
  pub record HasCaughtUp (set : List X) (v : X) : Type 0 where
    pub version : X
    pub member : Contains set version
    pub same_key : (seen version).key ≡ (seen v).key
    pub not_below : is_below (seen version) (seen v) ≡ false

  -- each version made a spread before this moment or earlier has come to every member that runs
  abbrev pub IsSpread : ℕ → ℕ → List X → List (RunStep X) → ℕ → Type 0
  IsSpread spread members all before now =
      (v : X) → Contains all v → (seen v).updated + spread ≤ now →
      (q : ℕ) → (member_of members q before).runs ≡ true → HasCaughtUp (set_of (member_of members q before)) v

  -- The run keeps the spread and the flight time. Versions delivered anywhere in it count at each of its steps, later ones too.
  pub record IsTimely (spread flight members : ℕ) (steps : List (RunStep X)) : Type 0 where
    -- the moments written in the steps never fall
    pub onward : EachStep steps IsOnward
    -- each version lives for the spread and the flight time at least
    pub lasting : All (λ v. ((seen v).updated + spread) + flight ≤ (seen v).expires) (delivered_in steps)
    pub swift : EachStep steps (IsSwift flight)
    -- each version is spread at the beginning of each step with a moment
    pub caught_up : EachStep steps (λ before step. IfSome (moment step) (IsSpread spread members (delivered_in steps) before))
