-- The fault of a row, however it is read.
use Rattle.std.proofs.Common.{◌≡◌, ℕ, List, Option, Some, None, refl, sym, subst}
use Rattle.std.specs.Prelude.{IfSome, Result}
use Rattle.am_version_order.specs.Versions.{Version}
use Rattle.am_wire.specs.declared.error.WireError.{WireError}
use Rattle.am_wire.specs.declared.reader.RowFault.{RowFault}
use Rattle.am_wire.specs.Inputs.{StopsWithin}
use Rattle.am_snapshot.specs.Loads.{StopsLoadWithin, load_fault}
use Rattle.am_snapshot.specs.declared.error.SnapshotError.{SnapshotError}
use Rattle.am_commands.specs.declared.opened.Keys.{Keys}
use Rattle.am_commands.specs.declared.opened.Keys.TheVariants.{Once, Repeated}
use Rattle.am_commands.specs.Rows.{StopsRow}

module _ {K X : Type 0} (seen : X → Version K) (reads : ℕ → List ℕ → Result X WireError) (limit : ℕ) where
  -- it stops so, if its bytes are known
  abbrev pub Stops : Keys → Option (List ℕ) → SnapshotError → Type 0
  Stops keys start e = IfSome start (λ row. (left : Option (List ℕ)) × StopsRow seen reads keys limit row left e)

  taken : (start left : Option (List ℕ)) (fault : RowFault) → IfSome start (λ row. (versions : List X) × StopsWithin reads limit row versions left fault)
      → Stops Repeated start (load_fault fault)
  taken None left fault at = tt
  taken (Some row) left fault (versions, at) = (left, (fault, refl, versions, at))

  pub taken_stops : (keys : Keys) → keys ≡ Repeated → (start left : Option (List ℕ)) (fault : RowFault)
      → IfSome start (λ row. (versions : List X) × StopsWithin reads limit row versions left fault)
      → (e : SnapshotError) → e ≡ load_fault fault → Stops keys start e
  taken_stops keys is start left fault at e told =
      subst (λ (k : Keys). Stops k start e) (sym is) (subst (λ (x : SnapshotError). Stops Repeated start x) (sym told) (taken start left fault at))

  loaded : (start left : Option (List ℕ)) (e : SnapshotError) → IfSome start (λ row. StopsLoadWithin seen reads limit row left e) → Stops Once start e
  loaded None left e at = tt
  loaded (Some row) left e at = (left, at)

  pub loaded_stops : (keys : Keys) → keys ≡ Once → (start left : Option (List ℕ)) (e : SnapshotError)
      → IfSome start (λ row. StopsLoadWithin seen reads limit row left e) → Stops keys start e
  loaded_stops keys is start left e at = subst (λ (k : Keys). Stops k start e) (sym is) (loaded start left e at)
