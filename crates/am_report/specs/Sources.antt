-- Sources, and the rest of each on a walk over all of them in the order of the keys.
use Rattle.std.specs.Prelude.{ℕ, ◌+◌, Bool, false, List, [], ◌∷◌, Option, Some, None, length, if◌then◌else◌}
use Rattle.std.specs.declared.cmp.Ordering.{Ordering}
use Rattle.std.specs.Ordering.{eq_by_cmp}
use Rattle.am_version_order.specs.Versions.{Version}

-- a source: its name, and the map of the versions that it holds
pub record Source (X : Type 0) : Type 0 where
  pub name : List ℕ
  pub held : List X

-- the version that a source holds at a key, if there is one, with the name of the source
pub record Holding (X : Type 0) : Type 0 where
  pub name : List ℕ
  pub here : Option X

-- a source on a walk: what it holds at the key that the walk has reached, and what comes behind
pub record MergeCursor (X : Type 0) : Type 0 where
  pub name : List ℕ
  pub here : Option X
  pub left : List X

-- the two halves of a side
abbrev pub holding_of : {X : Type 0} → MergeCursor X → Holding X
holding_of cursor = record { name = cursor.name; here = cursor.here }

abbrev pub rest_of : {X : Type 0} → MergeCursor X → Source X
rest_of cursor = record { name = cursor.name; held = cursor.left }

-- a side before its first key
abbrev pub side_of : {X : Type 0} → Source X → MergeCursor X
side_of source = record { name = source.name; here = None; left = source.held }

-- the number of versions that are left of all
abbrev pub left_of_all : {X : Type 0} → List (MergeCursor X) → ℕ
left_of_all [] = 0
left_of_all (cursor ∷ sides) = length cursor.left + left_of_all sides

-- a version with those behind it, or nothing if there is none
abbrev pub front_of : {X : Type 0} → Option X → List X → List X
front_of None rest = []
front_of (Some v) rest = v ∷ rest

module _ {K X : Type 0} (seen : X → Version K) (cmp : K → K → Ordering) where
  -- true if the first version has the key
  abbrev pub begins_at : K → List X → Bool
  begins_at key [] = false
  begins_at key (v ∷ rest) = eq_by_cmp cmp (seen v).key key

  -- the first version, if it has the key
  abbrev pub first_at : K → List X → Option X
  first_at key [] = None
  first_at key (v ∷ rest) = if eq_by_cmp cmp (seen v).key key then Some v else None

  -- the versions behind the first one, if that has the key
  abbrev pub behind : K → List X → List X
  behind key [] = []
  behind key (v ∷ rest) = if eq_by_cmp cmp (seen v).key key then rest else v ∷ rest

  -- a side that has come to the key
  abbrev pub come_to : K → MergeCursor X → MergeCursor X
  come_to key cursor = record { name = cursor.name; here = first_at key cursor.left; left = behind key cursor.left }
