-- The version that a canonical encoding spells.
use Rattle.std.specs.Prelude.{ℕ, List, [], Result, Ok, Err}
use Rattle.std.proofs.Common.{◌≡◌, ap, arith}
use Rattle.am_wire.specs.declared.error.WireError.{WireError}
use Rattle.am_wire.specs.declared.unknown.Unknown.TheVariants.{Keep}
use Rattle.am_silence.specs.Mesh.{Mesh, IsMesh, plain_version, writes_mesh_silence}
use Rattle.am_silence.specs.MeshTable.{reads_mesh_silence}
use Rattle.am_silence.specs.RoundTrip.{mesh_again}

-- an empty version
abbrev no_version : Mesh
no_version =
    plain_version (record { id = []; matchers = []; starts_at = 0; ends_at = 0; updated_at = 0; created_by = []; comment = [] }) 0

abbrev or_no_version : Result Mesh WireError → Mesh
or_no_version (Ok m) = m
or_no_version (Err e) = no_version

-- the version that a text spells, or an empty version if it spells none
unfoldable pub version_in : List ℕ → Mesh
version_in text = or_no_version (reads_mesh_silence Keep 0 text)

-- a version is the one that its text spells
pub version_spelled : (m : Mesh) → IsMesh m → version_in (writes_mesh_silence m) ≡ m
unfolding version_in
version_spelled m is = let size = is.size in ap or_no_version (mesh_again m 0 is (omega arith))
