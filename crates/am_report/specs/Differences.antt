-- The keys at which sources differ, and what each source holds there.
-- X is the type of versions, and `seen` is what the merge sees of one.
use Rattle.std.specs.Prelude.{◌≡◌, ℕ, List, [], ◌∷◌, Bool, true, false, not, Option, Some, None, map, All, AllPairs, Contains}
use Rattle.std.specs.List.{list_any}
use Rattle.std.specs.declared.cmp.Ordering.{Ordering}
use Rattle.std.specs.declared.cmp.Ordering.TheVariants.{Less}
use Rattle.std.specs.Ordering.{is_eq}
use Rattle.am_version_order.specs.Versions.{Version, rank_cmp}
use Rattle.am_merge.specs.Maps.{at, if_live}
use Rattle.am_report.specs.Sources.{Source, Holding}
use Rattle.am_report.specs.declared.compared.Compared.{Compared}
use Rattle.am_report.specs.declared.compared.Compared.TheVariants.{Shown, Held}

-- a key, and what each source holds there, in the order of the sources
pub record Difference (K X : Type 0) : Type 0 where
  pub key : K
  pub holdings : List (Holding X)

module _ {K X : Type 0} (seen : X → Version K) where
  -- true if the order doesn't tell two versions apart, or there is none on either side
  abbrev pub is_same : Option X → Option X → Bool
  is_same None None = true
  is_same None (Some w) = false
  is_same (Some v) None = false
  is_same (Some v) (Some w) = is_eq (rank_cmp (seen v) (seen w))

  -- the part of what a source holds that is compared: what it shows at the moment, or all
  abbrev pub compared_of : Compared → ℕ → Option X → Option X
  compared_of Shown now here = if_live seen now here
  compared_of Held now here = here

  -- true if some of the others isn't the same as the first
  abbrev pub is_different : Compared → ℕ → List (Holding X) → Bool
  is_different compared now [] = false
  is_different compared now (first ∷ others) =
      list_any (λ other. not (is_same (compared_of compared now first.here) (compared_of compared now other.here))) others

  module _ (cmp : K → K → Ordering) where
    -- the holdings of the sources at a key
    abbrev pub held_at : K → List (Source X) → List (Holding X)
    held_at key sources = map (λ source. record { name = source.name; here = at seen cmp source.held key }) sources

    -- the differences are all differences, in the order of the keys: each with what the sources hold there
    pub record AreDifferences (compared : Compared) (now : ℕ) (sources : List (Source X)) (differences : List (Difference K X)) : Type 0 where
      pub order : AllPairs (λ one other. cmp one.key other.key ≡ Less) differences
      pub held : All (λ difference. difference.holdings ≡ held_at difference.key sources) differences
      pub different : All (λ difference. is_different compared now difference.holdings ≡ true) differences
      pub whole : (key : K) → is_different compared now (held_at key sources) ≡ true
          → (difference : Difference K X) × Contains differences difference × (difference.key ≡ key)
