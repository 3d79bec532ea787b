-- The questions about a run, as tests that go through its steps.
-- X is the type of versions, and `seen` is what the merge sees of one.
use Rattle.std.specs.Prelude.{◌≡◌, ℕ, ◌+◌, ◌-◌, ◌<◌, length, List, [], ◌∷◌, Bool, true, false, not, ◌&&◌}
use Rattle.std.specs.Prelude.{◌||◌, ◌==◌, max, Option, Some, None, if◌then◌else◌, nat_lt, nat_le}
use Rattle.std.specs.List.{list_any}
use Rattle.std.specs.declared.cmp.Ordering.{Ordering}
use Rattle.std.specs.Ordering.{eq_by_cmp}
use Rattle.am_version_order.specs.Versions.{Version, is_below, is_live}
use Rattle.am_merge.specs.Maps.{greater_of, at}
use Rattle.am_runs.specs.declared.step.DeliverySource.{DeliverySource}
use Rattle.am_runs.specs.declared.step.DeliverySource.TheVariants.{Made, Written, Arrived, Lent}
use Rattle.am_runs.specs.Steps.{RunStep, EachStep, clock_after, is_at, flights_by, moment}
use Rattle.am_runs.specs.Steps.RunStep.{Took, Ticked, Back, Refused, Saved, Stopped, Started}

-- ---- whether a member runs

-- true if a member runs after a step, given whether it ran before
abbrev pub runs_after : {X : Type 0} → ℕ → Bool → RunStep X → Bool
runs_after q runs (Took place now source versions frames) = runs
runs_after q runs (Ticked place now) = runs
runs_after q runs (Back place now) = runs
runs_after q runs (Refused now) = runs
runs_after q runs (Saved place) = runs
runs_after q runs (Stopped place) = if place == q then false else runs
runs_after q runs (Started place now) = if place == q then true else runs

-- true if a member runs after steps, given whether it ran before
abbrev pub runs_from : {X : Type 0} → ℕ → Bool → List (RunStep X) → Bool
runs_from q runs [] = runs
runs_from q runs (step ∷ steps) = runs_from q (runs_after q runs step) steps

-- ---- the moment of a member's last event or start

-- the moment after a step of the member itself
abbrev pub acted : {X : Type 0} → ℕ → RunStep X → ℕ
acted last (Took place now source versions frames) = now
acted last (Ticked place now) = now
acted last (Back place now) = last
acted last (Refused now) = last
acted last (Saved place) = last
acted last (Stopped place) = last
acted last (Started place now) = now

-- the moment after any step
abbrev pub last_after : {X : Type 0} → ℕ → ℕ → RunStep X → ℕ
last_after q last step = if is_at q step then acted last step else last

-- the moment after steps
abbrev pub last_from : {X : Type 0} → ℕ → ℕ → List (RunStep X) → ℕ
last_from q last [] = last
last_from q last (step ∷ steps) = last_from q (last_after q last step) steps

-- ---- whether a member is calm

-- the greatest version of a key taken by a member, and that of its saved copy
pub record MaxTaken (X : Type 0) : Type 0 where
  pub top : Option X
  pub saved : Option X

-- the last collection of a member, and that of its saved copy
pub record LastCollection : Type 0 where
  pub last : Option ℕ
  pub saved : Option ℕ

-- the later one of the last collection, if there was one, and a moment
abbrev pub later : Option ℕ → ℕ → Option ℕ
later None now = Some now
later (Some last) now = Some (max last now)

-- the last collections after a step of the member itself
abbrev pub lasted : {X : Type 0} → LastCollection → RunStep X → LastCollection
lasted l (Took place now source versions frames) = l
lasted l (Ticked place now) = record { last = later l.last now; saved = l.saved }
lasted l (Back place now) = l
lasted l (Refused now) = l
lasted l (Saved place) = record { last = l.last; saved = l.last }
lasted l (Stopped place) = l
lasted l (Started place now) = record { last = l.saved; saved = l.saved }

-- the last collections after any step
abbrev pub lasts_after : {X : Type 0} → ℕ → LastCollection → RunStep X → LastCollection
lasts_after q l step = if is_at q step then lasted l step else l

-- the last collections after steps
abbrev pub lasts_from : {X : Type 0} → ℕ → LastCollection → List (RunStep X) → LastCollection
lasts_from q l [] = l
lasts_from q l (step ∷ steps) = lasts_from q (lasts_after q l step) steps

-- true if a collection had this moment or a later one
abbrev pub has_reached : Option ℕ → ℕ → Bool
has_reached None moment = false
has_reached (Some last) moment = nat_le moment last

-- the last collection of a member in steps
abbrev pub last_in : {X : Type 0} → ℕ → List (RunStep X) → Option ℕ
last_in q steps = (lasts_from q (record { last = None; saved = None }) steps).last

module _ {K X : Type 0} (seen : X → Version K) where
  -- true if a version comes in time, given the greatest version taken of its key and the last collection
  abbrev pub in_time : Option X → Option ℕ → ℕ → X → Bool
  in_time None last now v = true
  in_time (Some g) last now v = not (is_live now (seen v) && (is_below (seen v) (seen g) && has_reached last (seen g).expires))

module _ {K X : Type 0} (seen : X → Version K) (cmp : K → K → Ordering) where
  -- the greatest version of a key after versions are taken
  abbrev pub top_among : K → Option X → List X → Option X
  top_among key top [] = top
  top_among key top (v ∷ vs) = top_among key (greater_of seen top (at seen cmp (v ∷ []) key)) vs

  -- the greatest versions after a step of the member itself
  abbrev pub topped : K → MaxTaken X → RunStep X → MaxTaken X
  topped key t (Took place now source versions frames) = record { top = top_among key t.top versions; saved = t.saved }
  topped key t (Ticked place now) = t
  topped key t (Back place now) = t
  topped key t (Refused now) = t
  topped key t (Saved place) = record { top = t.top; saved = t.top }
  topped key t (Stopped place) = t
  topped key t (Started place now) = record { top = t.saved; saved = t.saved }

  -- the greatest versions after any step
  abbrev pub tops_after : ℕ → K → MaxTaken X → RunStep X → MaxTaken X
  tops_after q key t step = if is_at q step then topped key t step else t

  -- the greatest versions after steps
  abbrev pub tops_from : ℕ → K → MaxTaken X → List (RunStep X) → MaxTaken X
  tops_from q key t [] = t
  tops_from q key t (step ∷ steps) = tops_from q key (tops_after q key t step) steps

  -- the greatest version of a key that a member took in steps
  abbrev pub top_in : ℕ → K → List (RunStep X) → Option X
  top_in q key steps = (tops_from q key (record { top = None; saved = None }) steps).top

  -- true if a version of an event comes in time, after the steps before and the versions before it
  abbrev pub comes_in_time : ℕ → List (RunStep X) → ℕ → List X → X → Bool
  comes_in_time q before now done v = in_time seen (top_among (seen v).key (top_in q (seen v).key before) done) (last_in q before) now v

  -- a member that was calm stays calm with this step
  abbrev pub StaysCalm : ℕ → List (RunStep X) → RunStep X → Type 0
  StaysCalm q before (Took place now source versions frames) =
      (place == q) ≡ true → EachStep versions (λ done v. comes_in_time q before now done v ≡ true)
  StaysCalm q before (Ticked place now) = Unit {0}
  StaysCalm q before (Back place now) = (place == q) ≡ false
  StaysCalm q before (Refused now) = Unit {0}
  StaysCalm q before (Saved place) = Unit {0}
  StaysCalm q before (Stopped place) = Unit {0}
  StaysCalm q before (Started place now) = Unit {0}

-- ---- whether the run is timely

-- true if a moment is not before the last one written
abbrev pub is_monotone : ℕ → Option ℕ → Bool
is_monotone clock None = true
is_monotone clock (Some now) = nat_le clock now

-- true if the moments of steps never decrease
abbrev pub are_monotone : {X : Type 0} → ℕ → List (RunStep X) → Bool
are_monotone clock [] = true
are_monotone clock (step ∷ steps) = is_monotone clock (moment step) && are_monotone (clock_after clock (moment step)) steps

-- the moment when the frame with this number was sent
abbrev pub sent_in : {X : Type 0} → ℕ → List (RunStep X) → Option ℕ
sent_in number [] = None
sent_in number (step ∷ steps) = if nat_lt number (length (flights_by step)) then moment step
    else sent_in (number - length (flights_by step)) steps

-- true if a delivery at `now` is within the flight time of its sending
abbrev pub flies_short : ℕ → ℕ → Option ℕ → Bool
flies_short flight now None = true
flies_short flight now (Some sent) = nat_le now (sent + flight)

-- the moment when the versions of a source were sent, if they were
abbrev pub sent_at : {X : Type 0} → List (RunStep X) → DeliverySource → Option ℕ
sent_at steps Made = None
sent_at steps (Written sent) = Some sent
sent_at steps (Arrived number) = sent_in number steps
sent_at steps (Lent place) = None

-- true if the versions delivered by a step, one of all steps, came in time
abbrev pub arrived_in_time : {X : Type 0} → ℕ → List (RunStep X) → RunStep X → Bool
arrived_in_time flight steps (Took place now source versions frames) = flies_short flight now (sent_at steps source)
arrived_in_time flight steps (Ticked place now) = true
arrived_in_time flight steps (Back place now) = true
arrived_in_time flight steps (Refused now) = true
arrived_in_time flight steps (Saved place) = true
arrived_in_time flight steps (Stopped place) = true
arrived_in_time flight steps (Started place now) = true

-- a member and a version: true if the member runs, if its set has the version or a greater one of its key, and if its saved set has
pub record Watched : Type 0 where
  pub runs : Bool
  pub has : Bool
  pub saved : Bool

-- true if a version is old enough to have come, and the member runs without it
abbrev pub is_wanting : ℕ → Watched → Option ℕ → Bool
is_wanting due w None = false
is_wanting due w (Some now) = nat_le due now && (w.runs && not w.has)

module _ {K X : Type 0} (seen : X → Version K) (cmp : K → K → Ordering) where
  -- true if a taken version is this one, or a greater one of its key
  abbrev pub counts_for : X → X → Bool
  counts_for v taken = eq_by_cmp cmp (seen taken).key (seen v).key && not (is_below (seen taken) (seen v))

  -- the three answers after a step of the member itself
  abbrev pub watched : X → Watched → RunStep X → Watched
  watched v w (Took place now source versions frames) =
      record { runs = w.runs; has = w.has || list_any (counts_for v) versions; saved = w.saved }
  watched v w (Ticked place now) = w
  watched v w (Back place now) = w
  watched v w (Refused now) = w
  watched v w (Saved place) = record { runs = w.runs; has = w.has; saved = w.has }
  watched v w (Stopped place) = record { runs = false; has = w.has; saved = w.saved }
  watched v w (Started place now) = record { runs = true; has = w.saved; saved = w.saved }

  -- the three answers after any step
  abbrev pub watch_after : ℕ → X → Watched → RunStep X → Watched
  watch_after q v w step = if is_at q step then watched v w step else w

  -- true if the member never runs without the version at the beginning of a step by which it should have come
  abbrev pub comes : ℕ → ℕ → X → Watched → List (RunStep X) → Bool
  comes spread q v w [] = true
  comes spread q v w (step ∷ steps) = not (is_wanting ((seen v).updated + spread) w (moment step))
      && comes spread q v (watch_after q v w step) steps

  -- the version comes to each of the members
  abbrev pub ComesToAll : ℕ → ℕ → List (RunStep X) → X → Type 0
  ComesToAll spread members steps v = (q : ℕ) → q < members
      → comes spread q v (record { runs = true; has = false; saved = false }) steps ≡ true
