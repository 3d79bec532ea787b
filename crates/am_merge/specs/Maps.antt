-- Maps from keys to versions, as the list of their versions in the order of the keys.
-- X is the type of the versions, and `seen` gives what the merge sees of one.
use Rattle.std.specs.Prelude.{◌≡◌, ℕ, List, [], ◌∷◌, Bool, true, Option, Some, None, if◌then◌else◌, find, filter, All}
use Rattle.std.specs.Prelude.{Contains, IsPermutation, ◌≤◌, bytes_eq}
use Rattle.std.specs.List.{AllByRecursion}
use Rattle.std.specs.declared.cmp.Ordering.{Ordering}
use Rattle.std.specs.declared.cmp.Ordering.TheVariants.{Less}
use Rattle.std.specs.Ordering.{eq_by_cmp, is_ge}
use Rattle.am_version_order.specs.Versions.{Version, is_below, is_live, IsLive}

-- the versions of a map that have this bucket
abbrev pub in_bucket : {X : Type 0} → (X → List ℕ) → List ℕ → List X → List X
in_bucket bucket_of bucket versions = filter (λ v. bytes_eq (bucket_of v) bucket) versions

module _ {K X : Type 0} (seen : X → Version K) where
  -- the greater of two versions of one key, or the only one; if they are equal, the first
  abbrev pub greater_of : Option X → Option X → Option X
  greater_of None w = w
  greater_of (Some v) None = Some v
  greater_of (Some v) (Some w) = if is_below (seen v) (seen w) then Some w else Some v

  -- v is greater than the version that is held, or none is held
  abbrev pub is_above : Option X → X → Bool
  is_above None v = true
  is_above (Some w) v = is_below (seen w) (seen v)

  -- the version, if it is live
  abbrev pub if_live : ℕ → Option X → Option X
  if_live now None = None
  if_live now (Some v) = if is_live now (seen v) then Some v else None

  -- the versions of a map that are live
  abbrev pub swept : ℕ → List X → List X
  swept now map = filter (λ v. is_live now (seen v)) map

  -- the moment is the least expiry of the versions
  pub record IsLeastExpiry (map : List X) (moment : ℕ) : Type 0 where
    pub version : X
    pub held : Contains map version
    pub own : (seen version).expires ≡ moment
    pub least : All (λ v. moment ≤ (seen v).expires) map

  -- two of the versions have the same key
  pub record HasTwice (versions : List X) : Type 0 where
    pub one : X
    pub other : X
    pub rest : List X
    pub same_key : (seen one).key ≡ (seen other).key
    pub among : IsPermutation versions (one ∷ other ∷ rest)

  module _ (cmp : K → K → Ordering) where
    -- each key is below those after it, so none occurs twice
    abbrev pub IsMap : List X → Type 0
    IsMap [] = Unit {0}
    IsMap (v ∷ rest) = AllByRecursion (λ w. cmp (seen v).key (seen w).key ≡ Less) rest × IsMap rest

    -- the version of the key
    abbrev pub at : List X → K → Option X
    at map key = find (λ v. eq_by_cmp cmp (seen v).key key) map

    -- the versions of a map whose keys are this key or above it
    abbrev pub from_key : List X → K → List X
    from_key map key = filter (λ v. is_ge (cmp (seen v).key key)) map

    -- for each key the map has the greater of two maps' versions, or the only one
    abbrev pub IsJoin : List X → List X → List X → Type 0
    IsJoin map other joined = (key : K) → at joined key ≡ greater_of (at map key) (at other key)

    -- v is greater than the map's version of its key, or is the first one
    abbrev pub replaces : List X → X → Bool
    replaces map v = is_above (at map (seen v).key) v

    -- no key has a live version in the map, and a greater one in the other map that isn't live
    abbrev pub HidesNone : ℕ → List X → List X → Type 0
    HidesNone now map other = (key : K) (v w : X) → at map key ≡ Some v → at other key ≡ Some w
        → is_below (seen v) (seen w) ≡ true → IsLive now (seen v) → IsLive now (seen w)
