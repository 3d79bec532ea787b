-- An entry as instances exchange it: entry = 1, expires_at = 2.
use Rattle.std.specs.Prelude.{ℕ, ◌≤◌, ◌^◌, List, [], ◌∷◌, length}
use Rattle.am_version_order.specs.Moments.{greatest}
use Rattle.am_version_order.specs.Versions.{Version}
use Rattle.am_wire.specs.declared.unknown.UnknownFields.{UnknownFields}
use Rattle.am_wire.specs.Unknown.{IsUnknown, none, writes_with}
use Rattle.am_nflog.specs.declared.entry.Entry.{Entry}
use Rattle.am_nflog.specs.LogKeys.{LogKey}
use Rattle.am_nflog.specs.Entries.{writes_entry, IsEntry}

-- an entry, the moment from which it may be forgotten, and the fields of either that their readers don't know
pub record Mesh : Type 0 where
  pub entry : Entry
  pub expires_at : ℕ
  pub unknown : UnknownFields

-- a version without unknown fields
abbrev pub plain_version : Entry → ℕ → Mesh
plain_version entry expires_at = record { entry = entry; expires_at = expires_at; unknown = none }

-- the version without its unknown fields
abbrev pub without_unknown : Mesh → Mesh
without_unknown m = plain_version m.entry m.expires_at

-- the numbers of an entry's known fields
abbrev pub entry_numbers : List ℕ
entry_numbers = 1 ∷ 2 ∷ 3 ∷ 4 ∷ 5 ∷ 6 ∷ 7 ∷ []

-- the canonical encoding of a version
unfoldable pub writes_mesh_entry : Mesh → List ℕ
writes_mesh_entry m = writes_with m.unknown (writes_entry m.entry) m.expires_at

-- the version is a value of its type
pub record IsMesh (m : Mesh) : Type 0 where
  pub entry : IsEntry m.entry
  pub expires_at : m.expires_at ≤ greatest
  pub unknown : IsUnknown entry_numbers m.unknown
  pub size : length (writes_mesh_entry m) ≤ 2 ^ 63

-- the version as the merge sees it
abbrev pub mesh_version : Mesh → Version LogKey
mesh_version m = record { key = m.entry.key; updated = m.entry.timestamp; expires = m.expires_at; content = writes_mesh_entry m }
