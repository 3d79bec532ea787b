-- The members of a cluster, as given to one of them.
use Rattle.std.specs.Prelude.{ℕ, ◌≡◌, ◌<◌, ◌≤◌, Bool, not, ◌&&◌, ◌==◌, nat_lt, List, [], ◌∷◌, length, filter, position, Option, All, IsPermutation}
use Rattle.std.specs.List.{AllByRecursion, range_with_len}
use Rattle.std.specs.Ordering.{nat_cmp}
use Rattle.std.specs.Str.{bytes_eq}
use Rattle.std.specs.Cmp.Lexicographic.{slice_cmp}
use Rattle.std.specs.declared.cmp.Ordering.TheVariants.{Less}
use Rattle.am_matcher.specs.declared.dialect.Dialect.{Dialect}
use Rattle.am_wire.specs.declared.unknown.Unknown.{Unknown}

-- a configuration, as contracts see it: the names of all members in the order of their bytes, the own place among them, how long
-- versions are kept after their end and how long members wait for one another (both in nanoseconds), the dialect of regular
-- expressions in patterns, and the policy for fields of versions that their readers don't know
pub record Settings : Type 0 where
  pub members : List (List ℕ)
  pub place : ℕ
  pub retention : ℕ
  pub peer_timeout : ℕ
  pub dialect : Dialect
  pub unknown : Unknown

-- each name is below those after it, so no two are the same
abbrev pub AreInOrder : List (List ℕ) → Type 0
AreInOrder [] = Unit {0}
AreInOrder (name ∷ names) = AllByRecursion (λ other. slice_cmp nat_cmp name other ≡ Less) names × AreInOrder names

-- two of the names are the same
pub record HasTwice (names : List (List ℕ)) : Type 0 where
  pub name : List ℕ
  pub rest : List (List ℕ)
  pub among : IsPermutation names (name ∷ name ∷ rest)

-- the place of the member with a name, or the first of several, which no cluster has
abbrev pub place_named : Settings → List ℕ → Option ℕ
place_named settings name = position (λ member. bytes_eq member name) settings.members

-- the place is that of a member, and not the own one
abbrev pub is_peer : Settings → ℕ → Bool
is_peer settings place = nat_lt place (length settings.members) && not (place == settings.place)

-- the place is neither of two places
abbrev pub is_other : ℕ → ℕ → ℕ → Bool
is_other one other place = not (place == one) && not (place == other)

-- the places of all members but two, in the order of their names
abbrev pub places_but : ℕ → ℕ → ℕ → List ℕ
places_but members one other = filter (is_other one other) (range_with_len 0 members)

-- the places of all peers but the one at a place, in the order of their names; at the own place, those of all peers
abbrev pub peers_but : Settings → ℕ → List ℕ
peers_but settings place = places_but (length settings.members) settings.place place

-- the name has no bytes
abbrev pub IsEmptyName : List ℕ → Type 0
IsEmptyName name = length name ≡ 0

-- the name has more than 255 bytes
abbrev pub IsLongName : List ℕ → Type 0
IsLongName name = 255 < length name

-- the name has 1 to 255 bytes
abbrev pub IsMemberName : List ℕ → Type 0
IsMemberName name = (0 < length name) × (length name ≤ 255)

-- Every configuration has this: these are the names of its members, and one of them is at the own place.
pub record AreMembers (names : List (List ℕ)) (own : ℕ) : Type 0 where
  -- no two are the same
  pub order : AreInOrder names
  pub sized : All IsMemberName names
  pub there : own < length names
