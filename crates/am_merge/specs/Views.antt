-- The view of a bare set of versions. A set is a list in any order, with repetitions.
-- X is the type of the versions, and `seen` gives what the merge sees of one.
use Rattle.std.specs.Prelude.{◌≡◌, ◌≢◌, ℕ, List, false, Option, MatchOption, Contains}
use Rattle.am_version_order.specs.Versions.{Version, is_below, IsLive}

module _ {K X : Type 0} (seen : X → Version K) where
  -- v is in the set, and no member with the same key is greater
  pub record IsBest (set : List X) (v : X) : Type 0 where
    pub member : Contains set v
    pub unbeaten : (w : X) → Contains set w → (seen w).key ≡ (seen v).key → is_below (seen v) (seen w) ≡ false

  -- v is the greatest version of its key in the set, and is live
  pub record IsInView (set : List X) (now : ℕ) (v : X) : Type 0 where
    pub best : IsBest set v
    pub live : IsLive now (seen v)

  -- the result is the version of the key that is in view, or none if there is no such version
  abbrev pub IsViewAt : List X → ℕ → K → Option X → Type 0
  IsViewAt set now key found = MatchOption found ((v : X) → IsInView set now v → (seen v).key ≢ key) (λ v. ((seen v).key ≡ key)
      × IsInView set now v)

  -- each version of the map is the greatest of its key in the set, and each key of the set has a version in the map
  pub record HoldsBest (set map : List X) : Type 0 where
    pub best : (v : X) → Contains map v → IsBest set v
    pub keys : (v : X) → Contains set v → (w : X) × Contains map w × ((seen w).key ≡ (seen v).key)
