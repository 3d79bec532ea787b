-- Encodings of versions.
use Rattle.std.specs.Prelude.{ℕ, List}
use Rattle.std.specs.List.{flat_map}
use Rattle.am_version_order.specs.Versions.{Version}
use Rattle.am_wire.specs.Writing.{delimited}

-- the canonical row of versions, in their order; `seen` is what the merge sees of one
abbrev pub row_encoding : {K X : Type 0} → (X → Version K) → List X → List ℕ
row_encoding seen versions = flat_map (λ v. delimited (seen v).content) versions
