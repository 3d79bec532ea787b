-- The versions that an opened source gives, and the fault at which reading it stops.
-- X is the type of versions, R that of readers, `seen` is what the merge sees of a version, `reads` what reading one gives, and
-- `remaining` what a reader has to give. An input has at most `limit` bytes.
use Rattle.std.specs.Prelude.{◌≡◌, ℕ, List, [], Option, Some, None, IfSome, Result, ⊤}
use Rattle.am_version_order.specs.Versions.{Version}
use Rattle.am_wire.specs.declared.error.WireError.{WireError}
use Rattle.am_wire.specs.declared.reader.RowFault.{RowFault}
use Rattle.am_wire.specs.Inputs.{AreMessages, StopsWithin}
use Rattle.am_merge.specs.Views.{HoldsBest}
use Rattle.am_snapshot.specs.Loads.{IsLoaded, StopsLoadWithin, load_fault}
use Rattle.am_snapshot.specs.declared.error.SnapshotError.{SnapshotError}
use Rattle.am_diagnostics.specs.declared.fault.Fault.TheVariants.{Snapshot}
use Rattle.am_commands.specs.declared.fault.SourceFault.{SourceFault}
use Rattle.am_commands.specs.declared.fault.SourceFault.TheVariants.{Own}
use Rattle.am_commands.specs.declared.opened.Keys.{Keys}
use Rattle.am_commands.specs.declared.opened.Keys.TheVariants.{Once, Repeated}

module _ {K X : Type 0} (seen : X → Version K) (reads : ℕ → List ℕ → Result X WireError) where
  -- the map of a row: its versions, if no key may come twice, and otherwise the best of each key
  abbrev pub GivesRow : Keys → List ℕ → List X → Type 0
  GivesRow Once row held = IsLoaded seen reads row held
  GivesRow Repeated row held = (versions : List X) × AreMessages reads row versions × HoldsBest seen versions held

  -- the fault stands in the row, and is its first; `left` is what the reader has then
  abbrev pub StopsRow : Keys → ℕ → List ℕ → Option (List ℕ) → SnapshotError → Type 0
  StopsRow Once limit row left e = StopsLoadWithin seen reads limit row left e
  StopsRow Repeated limit row left e =
      (fault : RowFault) × (e ≡ load_fault fault) × (versions : List X) × StopsWithin reads limit row versions left fault

  module _ {R : Type 0} (remaining : R → Option (List ℕ)) where
    -- the map of a source that is a row alone; if it has none, nothing
    abbrev pub GivesOpened : Keys → Option R → List X → Type 0
    GivesOpened keys None held = held ≡ []
    GivesOpened keys (Some reader) held = IfSome (remaining reader) (λ row. GivesRow keys row held)

    -- the fault of such a source is one of its row
    abbrev pub StopsOpened : Keys → ℕ → Option R → SourceFault → Type 0
    StopsOpened keys limit (Some reader) (Own (Snapshot e)) =
        IfSome (remaining reader) (λ row. (left : Option (List ℕ)) × StopsRow keys limit row left e)
    StopsOpened keys limit _ _ = ⊥

-- of a source beside which logs stand, only those who read logs say more
abbrev pub UnlessLogged : {L : Type 0} → Option L → Type 0 → Type 0
UnlessLogged None P = P
UnlessLogged (Some logs) P = ⊤
