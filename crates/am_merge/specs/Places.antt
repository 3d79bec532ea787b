-- The place of a key in a map, or the place at which it would be inserted.
-- X is the type of the versions, and `seen` gives what the merge sees of one.
use Rattle.std.specs.Prelude.{◌≡◌, ℕ, ◌<◌, ◌≤◌, List, All, length, take, drop}
use Rattle.std.specs.List.{HoldsAt}
use Rattle.std.specs.declared.cmp.Ordering.{Ordering}
use Rattle.std.specs.declared.cmp.Ordering.TheVariants.{Less}
use Rattle.am_version_order.specs.Versions.{Version}

module _ {K X : Type 0} (seen : X → Version K) (cmp : K → K → Ordering) where
  -- the version of the key is at place i
  pub record IsPlaceOf (map : List X) (key : K) (i : ℕ) : Type 0 where
    pub in_range : i < length map
    pub here : HoldsAt (λ v. (seen v).key ≡ key) map i

  -- no version has the key, and one that has it would be inserted at place i
  pub record IsGapFor (map : List X) (key : K) (i : ℕ) : Type 0 where
    pub in_range : i ≤ length map
    pub below : All (λ v. cmp (seen v).key key ≡ Less) (take i map)
    pub above : All (λ v. cmp key (seen v).key ≡ Less) (drop i map)
