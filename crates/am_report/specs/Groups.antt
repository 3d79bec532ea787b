-- The groups of a difference: the versions that are held, greatest first, and the parts by which each is less than the greatest.
use Rattle.std.specs.Prelude.{◌≡◌, ◌<◌, List, true, Option, Some, None, fold, Contains, nat_lt, if◌then◌else◌, All, AllPairs}
use Rattle.std.specs.declared.cmp.Ordering.TheVariants.{Less}
use Rattle.std.specs.Ordering.{nat_cmp}
use Rattle.std.specs.Cmp.Lexicographic.{slice_cmp}
use Rattle.am_version_order.specs.Versions.{Version, is_below}
use Rattle.am_merge.specs.Maps.{greater_of}
use Rattle.am_report.specs.Sources.{Holding}
use Rattle.am_report.specs.Differences.{is_same}
use Rattle.am_report.specs.declared.diff_field.DiffField.{DiffField}
use Rattle.am_report.specs.declared.diff_field.DiffField.TheVariants.{Update, Expiry, Bytes}

-- v is less than w by this part of the order, and equal in the parts before it
abbrev pub IsLessBy : {K : Type 0} → DiffField → Version K → Version K → Type 0
IsLessBy Update v w = v.updated < w.updated
IsLessBy Expiry v w = (v.updated ≡ w.updated) × (v.expires < w.expires)
IsLessBy Bytes v w = (v.updated ≡ w.updated) × (v.expires ≡ w.expires) × (slice_cmp nat_cmp v.content w.content ≡ Less)

-- the first part in which two versions differ, or the last part if they differ in none before it
abbrev pub part_between : {K : Type 0} → Version K → Version K → DiffField
part_between v w = if nat_lt v.updated w.updated then Update else (if nat_lt v.expires w.expires then Expiry else Bytes)

module _ {K X : Type 0} (seen : X → Version K) where
  -- the version, if it is below the bound or there is no bound
  abbrev pub within : Option X → Option X → Option X
  within bound None = None
  within None (Some v) = Some v
  within (Some above) (Some v) = if is_below (seen v) (seen above) then Some v else None

  -- the greatest version below the bound, or the first of those that tie
  abbrev pub greatest_within : Option X → List (Holding X) → Option X
  greatest_within bound holdings = fold (λ best holding. greater_of seen best (within bound holding.here)) None holdings

  -- the versions are those that are held, each once, greatest first
  pub record AreRanked (holdings : List (Holding X)) (versions : List X) : Type 0 where
    pub order : AllPairs (λ one other. is_below (seen other) (seen one) ≡ true) versions
    pub held : All (λ v. (holding : Holding X) × Contains holdings holding × (holding.here ≡ Some v)) versions
    pub whole : (holding : Holding X) (v : X) → Contains holdings holding → holding.here ≡ Some v
        → (w : X) × Contains versions w × (is_same seen (Some v) (Some w) ≡ true)
