-- The effect of taking a version on a map, and its result.
-- X is the type of the versions, and `seen` gives what the merge sees of one.
use Rattle.std.specs.Prelude.{◌≡◌, ◌≢◌, ℕ, List, [], ◌∷◌, Bool, false, is_none, IsTrue, ◌↔◌, if◌then◌else◌}
use Rattle.std.specs.declared.cmp.Ordering.{Ordering}
use Rattle.am_version_order.specs.Versions.{Version, is_live}
use Rattle.am_merge.specs.Maps.{IsMap, IsJoin, at, replaces}
use Rattle.am_merge.specs.declared.held.Taken.{Taken}
use Rattle.am_merge.specs.declared.held.Taken.TheVariants.{Changed, Kept, Expired}

-- `Expired` if the version isn't live, else `Changed` if it is held now, else `Kept`
abbrev pub taken_by : Bool → Bool → Taken
taken_by live changed = if live then (if changed then Changed else Kept) else Expired

module _ {K X : Type 0} (seen : X → Version K) (cmp : K → K → Ordering) where
  -- the new map is the join of the map and v, and differs from the map if and only if v replaces the version of its key
  pub record IsPut (map : List X) (v : X) (new : List X) : Type 0 where
    pub order : IsMap seen cmp new
    pub joined : IsJoin seen cmp map (v ∷ []) new
    pub changed : IsTrue (replaces seen cmp map v) ↔ (new ≢ map)
    pub kept : replaces seen cmp map v ≡ false → new ≡ map

  -- the number of keys that v adds: 1 or 0
  abbrev pub new_keys : List X → X → ℕ
  new_keys map v = if is_none (at seen cmp map (seen v).key) then 1 else 0

  -- the number of versions that v adds: 1 or 0
  abbrev pub new_versions : List X → X → ℕ
  new_versions map v = if replaces seen cmp map v then 1 else 0

  -- the result of taking v
  abbrev pub taken_as : ℕ → List X → X → Taken
  taken_as now map v = taken_by (is_live now (seen v)) (replaces seen cmp map v)

  -- taking v at `now`, live or not, changes the map into the new one, and has this result
  pub record IsTaking (now : ℕ) (map : List X) (v : X) (new : List X) (taken : Taken) : Type 0 where
    pub put : IsPut map v new
    pub answer : taken ≡ taken_as now map v

  -- taking the first version and then the second changes the map into the new one, and has these results
  pub record AreTakings (now : ℕ) (map : List X) (first second : X) (new : List X) (taken : Taken × Taken) : Type 0 where
    pub between : List X
    pub before : IsTaking now map first between taken.0
    pub after : IsTaking now between second new taken.1
