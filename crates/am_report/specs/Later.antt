-- True if versions were updated after a moment: if so, a view at the moment is one of the past.
use Rattle.std.specs.Prelude.{ℕ, List, Bool, nat_lt}
use Rattle.std.specs.List.{list_any}
use Rattle.am_version_order.specs.Versions.{Version}
use Rattle.am_report.specs.Sources.{Source}

module _ {K X : Type 0} (seen : X → Version K) (now : ℕ) where
  -- true if one of these was
  abbrev pub has_later : List X → Bool
  has_later held = list_any (λ v. nat_lt now (seen v).updated) held

  -- true if one that a source holds was
  abbrev pub has_later_source : List (Source X) → Bool
  has_later_source sources = list_any (λ source. has_later source.held) sources
