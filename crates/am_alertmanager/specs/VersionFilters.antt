-- Versions that are looked for in stretches.
-- X is the type of versions, and `seen` is what the merge sees of one.
use Rattle.std.specs.Prelude.{◌≡◌, ◌⊎◌, ℕ, ◌+◌, ◌^◌, ◌<◌, Bool, true, false, List, [], ◌∷◌, ◌++◌, length, Option, Some, None}
use Rattle.std.specs.declared.cmp.Ordering.{Ordering}
use Rattle.am_version_order.specs.Versions.{Version}
use Rattle.am_matcher.specs.declared.hazard.Hazard.{Hazard}
use Rattle.am_merge.specs.Maps.{replaces}
use Rattle.am_alertmanager.specs.Mending.{is_given}
use Rattle.am_snapshot.specs.Encodings.{row_encoding}
use Rattle.am_snapshot.specs.declared.pieces.RowPiece.{RowPiece}
use Rattle.am_alertmanager.specs.declared.version_filter.VersionFilter.{VersionFilter}
use Rattle.am_alertmanager.specs.declared.version_filter.VersionFilter.TheVariants.{Lacked, Given}
use Rattle.am_alertmanager.specs.declared.tally.FilterTally.{FilterTally}
use Rattle.am_alertmanager.specs.declared.tally.Withheld.{Withheld}

-- exactly those of a list that pass a test were chosen, in order
pub data AreChosen {X : Type 0} (passes : X → Bool → Type 0) : List X → List X → Type 0 where
  nothing : AreChosen passes [] []
  chosen : {v : X} {looked chosen : List X} → passes v true → AreChosen passes looked chosen → AreChosen passes (v ∷ looked) (v ∷ chosen)
  left_out : {v : X} {looked chosen : List X} → passes v false → AreChosen passes looked chosen → AreChosen passes (v ∷ looked) chosen

-- those of the versions that are withheld are recorded, one after the other
pub data AreNoted {X W : Type 0} (withholds : X → List W → List W → Type 0) : List X → List W → List W → Type 0 where
  nobody : {notes : List W} → AreNoted withholds [] notes notes
  noted : {v : X} {looked : List X} {old mid new : List W} → withholds v old mid → AreNoted withholds looked mid new → AreNoted withholds (v ∷ looked) old new

module _ {K X : Type 0} (passes : X → Bool → Type 0) (withholds : X → List (Withheld K) → List (Withheld K) → Type 0) where
  -- of the versions that were looked at, those that pass are counted, as far as the number has room, and those that are withheld
  -- are recorded
  pub record Tallies (looked chosen : List X) (old new : FilterTally K) : Type 0 where
    pub are : AreChosen passes looked chosen
    pub passed : old.passed + length chosen < 2 ^ 64 → new.passed ≡ old.passed + length chosen
    pub noted : AreNoted withholds looked old.withheld.items new.withheld.items

  -- this holds for a first part of all versions
  pub record IsTallied (all : List X) (old new : FilterTally K) : Type 0 where
    pub looked : List X
    pub left : List X
    pub parts : all ≡ looked ++ left
    pub chosen : List X
    pub tallies : Tallies looked chosen old new

module _ {K X : Type 0} (seen : X → Version K) where
  module _ (cmp : K → K → Ordering) (is_hazard : X → Option Hazard → Type 0) where
    -- A replica that holds these versions is given the version at a moment, and the version has no hazard; or at least one of the
    -- two fails.
    abbrev pub IsHanded : ℕ → List X → X → Bool → Type 0
    IsHanded now held v true = (is_given seen cmp now held v ≡ true) × is_hazard v None
    IsHanded now held v false = (is_given seen cmp now held v ≡ false) ⊎ ((hazard : Hazard) × is_hazard v (Some hazard))

    -- A version that only its hazard keeps from a replica is recorded after those before it, with that hazard; otherwise nothing
    -- is recorded.
    abbrev pub WithholdsBy : ℕ → List X → X → List (Withheld K) → List (Withheld K) → Type 0
    WithholdsBy now held v old new = ((new ≡ old) × ((is_given seen cmp now held v ≡ false) ⊎ is_hazard v None))
        ⊎ ((hazard : Hazard) × (is_given seen cmp now held v ≡ true) × is_hazard v (Some hazard)
        × (new ≡ old ++ record { key = (seen v).key; updated = (seen v).updated; hazard = hazard } ∷ []))

    -- nothing is recorded of a version that a map lacks
    abbrev pub Withholds : VersionFilter X K → X → List (Withheld K) → List (Withheld K) → Type 0
    Withholds (Lacked held) v old new = new ≡ old
    Withholds (Given held now) v old new = WithholdsBy now held.now v old new

    -- a version passes if a map lacks it, or if it is handed to a replica
    abbrev pub Passes : VersionFilter X K → X → Bool → Type 0
    Passes (Lacked held) v b = b ≡ replaces seen cmp held.now v
    Passes (Given held now) v b = IsHanded now held.now v b

  -- the key of the first version, if there is one
  abbrev pub first_key : List X → Option K
  first_key [] = None
  first_key (v ∷ rest) = Some (seen v).key

  -- The row has exactly those of the first versions that pass a test, which the tally counts, and the next key is that of the
  -- first version after them.
  pub record IsSifted (passes : X → Bool → Type 0) (withholds : X → List (Withheld K) → List (Withheld K) → Type 0) (all : List X) (old new : FilterTally K)
      (piece : RowPiece K) : Type 0 where
    pub looked : List X
    pub left : List X
    pub parts : all ≡ looked ++ left
    pub chosen : List X
    pub tallies : Tallies passes withholds looked chosen old new
    pub row : piece.row ≡ row_encoding seen chosen
    pub next : piece.next ≡ first_key left
