-- The next key of a walk over several sources: the least of those that are left.
use Rattle.std.specs.Prelude.{◌≡◌, ◌≢◌, List, [], ◌∷◌, Option, Some, None, All, fold, true, if◌then◌else◌}
use Rattle.std.specs.List.{list_any}
use Rattle.std.specs.declared.cmp.Ordering.{Ordering}
use Rattle.std.specs.declared.cmp.Ordering.TheVariants.{Less}
use Rattle.std.specs.Ordering.{is_lt}
use Rattle.am_version_order.specs.Versions.{Version}
use Rattle.am_report.specs.Sources.{MergeCursor, begins_at}

-- the first version of a list
abbrev pub head_of : {X : Type 0} → List X → Option X
head_of [] = None
head_of (v ∷ rest) = Some v

-- nothing is left of any side
abbrev pub IsNothingLeft : {X : Type 0} → List (MergeCursor X) → Type 0
IsNothingLeft sides = All (λ cursor. cursor.left ≡ []) sides

module _ {K X : Type 0} (seen : X → Version K) (cmp : K → K → Ordering) where
  -- the version with the lesser key, or the only one; the first if they have one key
  abbrev pub lesser_of : Option X → Option X → Option X
  lesser_of None w = w
  lesser_of (Some v) None = Some v
  lesser_of (Some v) (Some w) = if is_lt (cmp (seen w).key (seen v).key) then Some w else Some v

  -- the first of the versions with the least key
  abbrev pub least_of : List (MergeCursor X) → Option X
  least_of sides = fold (λ least cursor. lesser_of least (head_of cursor.left)) None sides

  -- no key of the list is less
  abbrev pub StartsFrom : K → List X → Type 0
  StartsFrom key [] = Unit {0}
  StartsFrom key (v ∷ rest) = cmp (seen v).key key ≢ Less

  -- a side comes to the key next, and none to one before it
  pub record IsLeast (key : K) (sides : List (MergeCursor X)) : Type 0 where
    pub first : list_any (λ cursor. begins_at seen cmp key cursor.left) sides ≡ true
    pub least : All (λ cursor. StartsFrom key cursor.left) sides
