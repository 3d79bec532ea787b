-- The output of folding a row, and the state of the writer if the fold fails.
use Rattle.std.specs.Prelude.{◌≡◌, ℕ, ◌<◌, ◌≤◌, List, length, take, Option, IfSome, Result, ◌⊎◌}
use Rattle.std.specs.Io.KnownBytes.{Appends}
use Rattle.std.specs.declared.cmp.Ordering.{Ordering}
use Rattle.am_version_order.specs.Versions.{Version}
use Rattle.am_wire.specs.declared.error.WireError.{WireError}
use Rattle.am_wire.specs.declared.reader.RowFault.TheVariants as reading
use Rattle.am_merge.specs.Maps.{IsMap}
use Rattle.am_wire.specs.Limits.{most}
use Rattle.am_wire.specs.Inputs.{AreMessages, StopsAfter}
use Rattle.am_snapshot.specs.Encodings.{row_encoding}
use Rattle.am_merge.specs.Views.{HoldsBest}
use Rattle.am_snapshot.specs.declared.error.FoldError.{FoldError}
use Rattle.am_snapshot.specs.declared.error.FoldError.TheVariants as folding
use Rattle.am_snapshot.specs.declared.error.SnapshotError.{SnapshotError}
use Rattle.am_snapshot.specs.declared.error.SnapshotError.TheVariants.{Read, Write, Wire, DuplicateKey, TooLarge, Memory}

-- the fault of folding, as a fault of a snapshot
abbrev pub fold_fault : FoldError → SnapshotError
fold_fault (folding.Read at) = Read at
fold_fault (folding.Write k) = Write k
fold_fault (folding.Wire e) = Wire e
fold_fault folding.TooLarge = TooLarge
fold_fault folding.Memory = Memory

module _ {K X : Type 0} (seen : X → Version K) (cmp : K → K → Ordering) (reads : ℕ → List ℕ → Result X WireError) where
  -- the row has, for each key, the best among all versions of the input, in the order of the keys
  pub record IsFold (input row : List ℕ) : Type 0 where
    pub versions : List X
    pub all : AreMessages reads input versions
    pub map : List X
    pub order : IsMap seen cmp map
    pub best : HoldsBest seen versions map
    pub text : row ≡ row_encoding seen map

  -- the fold of an input that is within its limit
  pub record IsFoldWithin (input row : List ℕ) : Type 0 where
    pub fold : IsFold input row
    pub size : length input ≤ most

  -- the fold of an input within its limit is longer than a row may be
  abbrev pub IsFoldTooLarge : List ℕ → Type 0
  IsFoldTooLarge input = (row : List ℕ) × IsFoldWithin input row × (most < length row)

  -- Exactly the first bytes of a row within its limit went out; or the input is at fault, or the row is too large, and the writer
  -- is unchanged. `start` is what the reader had to give, `left` what it has then, and `contents` the contents of a writer.
  abbrev pub StopsFold : Option (List ℕ) → Option (List ℕ) → {W : Type 0} → (W → Option (List ℕ)) → W → W → SnapshotError → Type 0
  StopsFold start left contents old new (Write k) =
      (row : List ℕ) × (k < length row) × (length row ≤ most) × Appends (contents old) (contents new) (take k row)
      × IfSome start (λ input. IsFoldWithin input row)
  StopsFold start left contents old new (Read at) =
      (new ≡ old) × IfSome start (λ input. (versions : List X) × StopsAfter reads input versions left (reading.Read at))
  StopsFold start left contents old new (Wire e) =
      (new ≡ old) × IfSome start (λ input. (versions : List X) × StopsAfter reads input versions left (reading.Wire e))
  StopsFold start left contents old new TooLarge =
      (new ≡ old)
      × IfSome start (λ input. ((versions : List X) × StopsAfter reads input versions left reading.TooLarge) ⊎ IsFoldTooLarge input)
  StopsFold start left contents old new Memory = new ≡ old
  StopsFold start left contents old new DuplicateKey = ⊥
