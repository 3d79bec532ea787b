-- The reading of a silence that instances exchange.
use Rattle.std.specs.Prelude.{ℕ, List, Result}
use Rattle.am_wire.specs.declared.error.WireError.{WireError}
use Rattle.am_wire.specs.declared.expiring.Expiring.{Expiring}
use Rattle.am_wire.specs.declared.unknown.Unknown.{Unknown}
use Rattle.am_wire.specs.declared.unknown.UnknownFields.{UnknownFields}
use Rattle.am_wire.specs.Reading.{read_by}
use Rattle.am_wire.specs.Expiring.{expiring, expiring_tests, expiring_value}
use Rattle.am_wire.specs.Unknown.{unknown_fields}
use Rattle.am_silence.specs.declared.silence.Silence.{Silence}
use Rattle.am_silence.specs.Silences.{silence, silence_value, silence_tests}
use Rattle.am_silence.specs.Mesh.{Mesh, silence_numbers}

-- the version made of unknown fields, a silence and its moment
abbrev pub mesh_of : UnknownFields × Expiring Silence → Mesh
mesh_of d = record { silence = d.1.message; expires_at = d.1.expires_at; unknown = d.0 }

-- the version that bytes spell, with unknown fields dropped or kept, or their first fault
unfoldable pub reads_mesh_silence : Unknown → ℕ → List ℕ → Result Mesh WireError
reads_mesh_silence unknown at bytes =
    read_by (expiring silence) (expiring_tests silence silence_tests)
    (λ es. mesh_of (unknown_fields unknown silence_numbers es bytes, expiring_value silence silence_value es)) at at bytes
