-- Of which maps a row may be written.
use Rattle.std.proofs.Common.{◌↔◌, ◌<◌, ◌≤◌, ℕ, List, [], ◌∷◌, length, Option, Some, None, arith, ◌≡◌, ◌+◌, subst, sym, length-append, lt_of_not-le}
use Rattle.std.specs.Option.{SomeIff}
use Rattle.std.specs.List.{All}
use Rattle.std.proofs.lemmas.List.Elements.{All-nil, All-cons, All-head, All-tail}
use Rattle.am_version_order.specs.Versions.{Version}
use Rattle.am_wire.specs.Limits.{most}
use Rattle.am_wire.specs.Varint.{shortest}
use Rattle.am_wire.specs.Writing.{delimited}
use Rattle.am_snapshot.specs.Encodings.{row_encoding}
use Rattle.am_snapshot.specs.Saving.{FitsRow}
use Rattle.am_snapshot.proofs.RowEncodings.{row_first}

module _ {K X : Type 0} (seen : X → Version K) where
  -- the text of the version is as short as a row may hold
  abbrev pub IsShort : X → Type 0
  IsShort v = length (seen v).content ≤ most

  pub shorts : (versions : List X) → length (row_encoding seen versions) ≤ most → All IsShort versions
  shorts [] small = All-nil IsShort
  shorts (v ∷ versions) small =
      let content = (seen v).content in
      let len = length-append (delimited content) (row_encoding seen versions) in
      let own = length-append (shortest (length content)) content in
      All-cons IsShort v versions (omega (arith, small, len, own)) (shorts versions (omega (arith, small, len)))

  -- where it may have 64 MiB, of those whose row is no longer
  fits_all : (versions : List X) → length (row_encoding seen versions) ≤ most → FitsRow seen most versions
  fits_all versions small = record { short = shorts versions small; size = small }

  pub length_fits : (versions : List X) (found : Option ℕ) → SomeIff found (FitsRow seen most versions) (length (row_encoding seen versions)) → SomeIff found (length (row_encoding seen versions) ≤ most) (length (row_encoding seen versions))
  length_fits versions None none = λ small. none (fits_all versions small)
  length_fits versions (Some n) some = (some.0.size, some.1)

  pub large_is : (versions : List X) (P : Type 0) → (P ↔ (¬ (FitsRow seen most versions))) → P ↔ (most < length (row_encoding seen versions))
  large_is versions P is = (λ p. lt_of_not-le (λ small. is.0 p (fits_all versions small)), λ large. is.1 (λ fits. absurd (omega (arith, large, fits.size))))

  -- ---- a row that is counted, version by version
  module _ (limit total : ℕ) (left rest held : List X) (v : X) (is : left ≡ v ∷ rest) (count : total + length (row_encoding seen left) ≡ length (row_encoding seen held)) where
    pub counted_more : total + length (delimited (seen v).content) + length (row_encoding seen rest) ≡ length (row_encoding seen held)
    counted_more = omega (arith, count, row_first seen left rest v is)

    -- where there is no room for the next one, there is none for all
    pub no_room :
        ¬ ((length (seen v).content ≤ most) × (total + length (delimited (seen v).content) ≤ limit)) → (All IsShort held → All IsShort left)
        → ¬ FitsRow seen limit held
    no_room refused long fits =
        refused (All-head IsShort v rest (subst (λ (vs : List X). All IsShort vs) is (long fits.short)), omega (arith, fits.size, counted_more))

  -- what all that are left are, all are that are held, where the next one is
  pub all_on : (P : X → Type 0) (left rest held : List X) (v : X) → left ≡ v ∷ rest → P v → (All P left → All P held) → All P rest → All P held
  all_on P left rest held v is one all others = all (subst (λ (vs : List X). All P vs) (sym is) (All-cons P v rest one others))

  pub all_behind : (P : X → Type 0) (left rest held : List X) (v : X) → left ≡ v ∷ rest → (All P held → All P left) → All P held → All P rest
  all_behind P left rest held v is all held_all = All-tail P v rest (subst (λ (vs : List X). All P vs) is (all held_all))
