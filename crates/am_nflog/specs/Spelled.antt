-- The version that a text spells.
use Rattle.std.specs.Prelude.{ℕ, false, List, [], Ok, Err}
use Rattle.am_wire.specs.declared.unknown.Unknown.TheVariants.{Keep}
use Rattle.am_nflog.specs.Mesh.{Mesh, plain_version}
use Rattle.am_nflog.specs.MeshTable.{reads_mesh_entry}

-- the version that is used for a text that spells none
abbrev pub no_version : Mesh
no_version =
    plain_version (record {
      key = record { group_key = []; receiver = record { group_name = []; integration = []; idx = 0 } };
      group_hash = [];
      resolved = false;
      timestamp = 0;
      firing_alerts = [];
      resolved_alerts = [];
    }) 0

-- the version that a text spells
abbrev pub spelled : List ℕ → Mesh
spelled text = elim (reads_mesh_entry Keep 0 text) [ Ok m ↦ m | Err e ↦ no_version ]
