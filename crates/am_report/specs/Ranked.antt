-- The versions that are held at a key, each once, greatest first.
-- X is the type of versions, and `seen` is what the merge sees of one.
use Rattle.std.specs.Prelude.{List, [], ◌∷◌, Option, Some, None, fold, if◌then◌else◌}
use Rattle.am_version_order.specs.Versions.{Version, is_below}
use Rattle.am_report.specs.Sources.{Holding}

module _ {K X : Type 0} (seen : X → Version K) where
  -- the list with a version in its place, greatest first: before those that are less, and not beside one with which it ties
  abbrev pub placed : X → List X → List X
  placed v [] = v ∷ []
  placed v (w ∷ rest) =
      if is_below (seen w) (seen v) then v ∷ w ∷ rest
      else (if is_below (seen v) (seen w) then w ∷ placed v rest else w ∷ rest)

  -- the list with what a source holds in its place
  abbrev pub ranked_with : List X → Option X → List X
  ranked_with versions None = versions
  ranked_with versions (Some v) = placed v versions

  -- all versions that are held, each once, greatest first
  unfoldable pub ranked : List (Holding X) → List X
  ranked holdings = fold (λ versions holding. ranked_with versions holding.here) [] holdings
