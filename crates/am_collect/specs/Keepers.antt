-- The effect of events and steps on a map with the moment of its last event, and the versions that it shows.
-- X is the type of versions, and `seen` is what the merge sees of one.
use Rattle.std.specs.Prelude.{◌≡◌, ℕ, ◌+◌, ◌<◌, ◌≤◌, List, ◌++◌, Option, Some, Result, Ok, Err, map, length, take, slice_get}
use Rattle.std.specs.declared.cmp.Ordering.{Ordering}
use Rattle.am_version_order.specs.Versions.{Version}
use Rattle.am_merge.specs.Maps.{IsMap, at, if_live, swept}
use Rattle.am_merge.specs.Takings.{IsTaking}
use Rattle.am_merge.specs.Views.{IsViewAt}
use Rattle.am_collect.specs.declared.keeper.Step.{Step}
use Rattle.am_collect.specs.declared.keeper.Step.TheVariants.{Take, Collect}
use Rattle.am_collect.specs.declared.keeper.Stepped.{Stepped}
use Rattle.am_collect.specs.declared.keeper.Stepped.TheVariants.{Took, Swept}
use Rattle.am_collect.specs.declared.keeper.KeeperError.{KeeperError}
use Rattle.am_collect.specs.declared.keeper.KeeperError.TheVariants.{MomentBack, DuplicateKey, Memory}
use Rattle.am_collect.specs.Kept.{Kept}
use Rattle.am_collect.specs.Events.{MapEvent, Events, taken, after_all, last_moment, MoveForward}
use Rattle.am_collect.specs.Events.MapEvent.{Delivered, Collected}
use Rattle.am_collect.specs.Calm.{IsCalm}

-- the event of a step
abbrev pub event_of : {X : Type 0} → Step X → MapEvent X
event_of (Take v) = Delivered v
event_of Collect = Collected

-- the events of steps
abbrev pub events_of : {X : Type 0} → List (Step X × ℕ) → Events X
events_of steps = map (λ s. (event_of s.0, s.1)) steps

-- the reason for refusing a step at `now`: its moment is before the last one, or there is no memory for the version to be taken
abbrev pub IsRefusal : {X : Type 0} → Step X → ℕ → ℕ → KeeperError → Type 0
IsRefusal step last now (MomentBack back) = (back ≡ last) × (now < last)
IsRefusal step last now DuplicateKey = ⊥
IsRefusal (Take v) last now Memory = last ≤ now
IsRefusal Collect last now Memory = ⊥

-- the steps before the first refused one, or all
abbrev pub accepted : {X A : Type 0} → List (Step X × ℕ) → Result A (ℕ × KeeperError) → List (Step X × ℕ)
accepted steps (Ok done) = steps
accepted steps (Err stop) = take stop.0 steps

-- a run ended at a place: the step there was refused, with this last moment
pub record IsStop {X : Type 0} (last : ℕ) (steps : List (Step X × ℕ)) (stop : ℕ × KeeperError) : Type 0 where
  pub step : Step X × ℕ
  pub found : slice_get steps stop.0 ≡ Some step
  pub refusal : IsRefusal step.0 last step.1 stop.1

module _ {K X : Type 0} (seen : X → Version K) (cmp : K → K → Ordering) where
  -- the map after a step at `now`, and the step's outcome
  abbrev pub IsStepping : ℕ → List X → Step X → List X → Stepped → Type 0
  IsStepping now held (Take v) new (Took taken) = IsTaking seen cmp now held v new taken
  IsStepping now held (Take v) new (Swept went) = ⊥
  IsStepping now held Collect new (Took taken) = ⊥
  IsStepping now held Collect new (Swept went) = (new ≡ swept seen now held) × (went + length new ≡ length held)

  -- the live version of the key
  abbrev pub view_at : Kept X → ℕ → K → Option X
  view_at kept now key = if_live seen now (at seen cmp kept.held key)

  -- the events, each at a moment that wasn't before the last, lead from `old` to `new`
  pub record IsLeftBy (old : Kept X) (events : Events X) (new : Kept X) : Type 0 where
    pub forward : MoveForward old.last events
    pub map : (key : K) → at seen cmp new.held key ≡ after_all seen cmp (at seen cmp old.held) events key
    pub last : new.last ≡ last_moment old.last events

  -- the state of a keeper that started with a map and then saw calm events
  pub record IsCalmlyLeft (start : Kept X) (events : Events X) (new : Kept X) : Type 0 where
    pub map : IsMap seen cmp start.held
    pub calm : IsCalm seen start.held start.last events
    pub left : IsLeftBy start events new

  -- wherever the keeper started, if all events since then were calm, these last ones included, it shows the same as the bare set
  -- of all that it took
  abbrev pub ShowsBareSet : Kept X → Events X → Kept X → Type 0
  ShowsBareSet old events new =
      (start : Kept X) (past : Events X) → IsMap seen cmp start.held → IsLeftBy start past old
      → IsCalm seen start.held start.last (past ++ events) →
      (now : ℕ) (key : K) → new.last ≤ now → IsViewAt seen (taken start.held (past ++ events)) now key (view_at new now key)
