-- The maps of a settle. A map, here, is the function from a key to its version.
-- X is the type of versions, and `seen` is what the merge sees of one.
use Rattle.std.specs.Prelude.{ℕ, Option, None}
use Rattle.std.proofs.Common.{zero, suc}
use Rattle.am_version_order.specs.Versions.{Version}
use Rattle.am_merge.specs.Maps.{greater_of}

-- the join of the first n maps
abbrev pub join_of : {K X : Type 0} → (X → Version K) → ℕ → (ℕ → K → Option X) → K → Option X
join_of seen zero maps key = None
join_of seen (suc n) maps key = greater_of seen (join_of seen n maps key) (maps n key)
