-- The text of a version spells it.
use Rattle.std.proofs.Common.{◌≡◌, ℕ, List, Result, Ok, Err, ap, ◌∙◌, arith}
use Rattle.am_wire.specs.declared.error.WireError.{WireError}
use Rattle.am_wire.specs.declared.unknown.Unknown.{Unknown}
use Rattle.am_nflog.specs.RoundTrip.{mesh_again, plain_again}
use Rattle.am_nflog.specs.MeshTable.{reads_mesh_entry}
use Rattle.am_nflog.specs.Mesh.{Mesh, IsMesh, without_unknown, writes_mesh_entry}
use Rattle.am_nflog.specs.Spelled.{no_version, spelled}

version_of : Result Mesh WireError → Mesh
version_of r = elim r [ Ok m ↦ m | Err e ↦ no_version ]

pub spelled_is : (m : Mesh) (text : List ℕ) → IsMesh m → text ≡ writes_mesh_entry m → spelled text ≡ m
unfolding version_of
spelled_is m text is written =
    let small = is.size in
    ap spelled written ∙ ap version_of (mesh_again m 0 is (omega (arith, small)))

-- a canonical encoding without unknown fields is read as its version, wherever it stands
pub read_anywhere : (m : Mesh) (text : List ℕ) (unknown : Unknown) (at : ℕ) → IsMesh m → text ≡ writes_mesh_entry m → without_unknown m ≡ m
    → reads_mesh_entry unknown at text ≡ Ok m
read_anywhere m text unknown at is written plain =
    let small = is.size in
    ap (reads_mesh_entry unknown at) written ∙ plain_again unknown m at is (omega (arith, small)) plain
