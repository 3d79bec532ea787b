-- Rows that go out in pieces.
-- X is the type of versions, and `seen` is what the merge sees of one.
use Rattle.std.specs.Prelude.{◌≡◌, ◌⊎◌, ℕ, ◌<◌, ◌≤◌, List, [], ◌∷◌, ◌++◌, length, Option, Some, None}
use Rattle.am_version_order.specs.Versions.{Version}
use Rattle.am_snapshot.specs.Encodings.{row_encoding}
use Rattle.am_snapshot.specs.declared.pieces.RowPiece.{RowPiece}

module _ {K X : Type 0} (seen : X → Version K) (most : ℕ) where
  -- Either no version is left after those of a piece; or some are left, the first of them doesn't fit after the piece, and
  -- its key is the next one.
  abbrev pub GoesOn : List X → List X → Option K → Type 0
  GoesOn taken [] next = next ≡ None
  GoesOn taken (v ∷ rest) next = (next ≡ Some (seen v).key) × (0 < length taken) × (most < length (row_encoding seen (taken ++ v ∷ [])))

  -- the piece is the row of as many of the first versions as fit, but at least one, with the key of the first version left
  pub record IsPiece (all : List X) (piece : RowPiece K) : Type 0 where
    pub taken : List X
    pub left : List X
    pub parts : all ≡ taken ++ left
    pub row : piece.row ≡ row_encoding seen taken
    pub fits : (length taken ≤ 1) ⊎ (length piece.row ≤ most)
    pub next : GoesOn taken left piece.next
