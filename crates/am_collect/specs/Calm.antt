-- The condition on events under which a map loses nothing that counts.
-- X is the type of versions, and `seen` is what the merge sees of one.
use Rattle.std.specs.Prelude.{◌≡◌, ℕ, ◌<◌, ◌≤◌, true, List, ◌∷◌, ◌++◌, All}
use Rattle.am_version_order.specs.Versions.{Version, is_below, IsLive}
use Rattle.am_merge.specs.Views.{IsBest}
use Rattle.am_collect.specs.Events.{MapEvent, Events, taken, collections, last_moment}
use Rattle.am_collect.specs.Events.MapEvent.{Delivered, Collected, Passed}

module _ {K X : Type 0} (seen : X → Version K) where
  -- the greatest version taken with the key of `v` is this one, and it is greater than `v`
  pub record IsOvertaken (set : List X) (v greatest : X) : Type 0 where
    pub best : IsBest seen set greatest
    pub same_key : (seen greatest).key ≡ (seen v).key
    pub above : is_below (seen v) (seen greatest) ≡ true

  -- if a live version comes after a greater one, each collection so far came before the expiry of the greatest
  abbrev pub IsInTime : List X → List ℕ → MapEvent X → ℕ → Type 0
  IsInTime set collections (Delivered v) now =
      IsLive now (seen v) → (greatest : X) → IsOvertaken set v greatest → All (λ moment. moment < (seen greatest).expires) collections
  IsInTime set collections Collected now = Unit {0}
  IsInTime set collections Passed now = Unit {0}

  -- an event is calm after those before it
  pub record IsCalmAt (start : List X) (from : ℕ) (before : Events X) (event : MapEvent X) (now : ℕ) : Type 0 where
    pub forward : last_moment from before ≤ now
    pub in_time : IsInTime (taken start before) (collections before) event now

  -- each event is calm after those before it
  abbrev pub IsCalm : List X → ℕ → Events X → Type 0
  IsCalm start from events = (before : Events X) (e : MapEvent X × ℕ) (rest : Events X) → before ++ e ∷ rest ≡ events
      → IsCalmAt start from before e.0 e.1
