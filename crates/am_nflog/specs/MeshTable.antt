-- The reading of an entry that instances exchange.
use Rattle.std.specs.Prelude.{ℕ, List, Result}
use Rattle.am_wire.specs.declared.error.WireError.{WireError}
use Rattle.am_wire.specs.declared.expiring.Expiring.{Expiring}
use Rattle.am_wire.specs.declared.unknown.Unknown.{Unknown}
use Rattle.am_wire.specs.declared.unknown.UnknownFields.{UnknownFields}
use Rattle.am_wire.specs.Reading.{read_by}
use Rattle.am_wire.specs.Expiring.{expiring, expiring_tests, expiring_value}
use Rattle.am_wire.specs.Unknown.{unknown_fields}
use Rattle.am_nflog.specs.declared.entry.Entry.{Entry}
use Rattle.am_nflog.specs.Entries.{entry, entry_value, entry_tests}
use Rattle.am_nflog.specs.Mesh.{Mesh, entry_numbers}

-- the version made of unknown fields, an entry and its moment
abbrev pub mesh_of : UnknownFields × Expiring Entry → Mesh
mesh_of d = record { entry = d.1.message; expires_at = d.1.expires_at; unknown = d.0 }

-- the version that bytes spell, with unknown fields dropped or kept, or their first fault
unfoldable pub reads_mesh_entry : Unknown → ℕ → List ℕ → Result Mesh WireError
reads_mesh_entry unknown at bytes =
    read_by (expiring entry) (expiring_tests entry entry_tests)
    (λ es. mesh_of (unknown_fields unknown entry_numbers es bytes, expiring_value entry entry_value es)) at at bytes
