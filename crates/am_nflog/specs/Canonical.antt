-- The reading of canonical encodings of versions.
use Rattle.std.specs.Prelude.{◌≡◌, ℕ, List}
use Rattle.am_wire.specs.Passing.{Passing, Passes}
use Rattle.am_nflog.specs.declared.canonical.CanonicalEntry.{CanonicalEntry}
use Rattle.am_nflog.specs.declared.entry.Entry.{Entry}
use Rattle.am_nflog.specs.Entries.{writes_entry, IsEntry}
use Rattle.am_nflog.specs.Mesh.{IsMesh, without_unknown, writes_mesh_entry}
use Rattle.am_nflog.specs.Offsets.{StandAt}
use Rattle.am_nflog.specs.Spelled.{spelled}

-- between two states of a reader exactly the text of an entry is passed, whose parts are these
pub record PassesEntry (parts : CanonicalEntry) (old new : Passing) : Type 0 where
  -- the entry
  pub entry : Entry
  -- the text of the entry is passed, and nothing else
  pub passes : Passes (writes_entry entry) old new
  -- the entry is a value of its type
  pub value : IsEntry entry
  -- the key is that of the entry
  pub key : parts.key ≡ entry.key
  -- the flag is that of the entry
  pub resolved : parts.resolved ≡ entry.resolved
  -- the moment is that of the entry
  pub timestamp : parts.timestamp ≡ entry.timestamp
  -- the other parts are at their places in what is passed
  pub places : StandAt entry parts.places new.passed

-- the text is the canonical one of the version that it spells, which has no unknown fields, and whose parts are these
pub record IsCanonical (text : List ℕ) (parts : CanonicalEntry) (moment : ℕ) : Type 0 where
  -- the text is the one that is written for the version
  pub canonical : text ≡ writes_mesh_entry (spelled text)
  -- the version is a value of its type
  pub value : IsMesh (spelled text)
  -- the version has no unknown fields
  pub plain : without_unknown (spelled text) ≡ spelled text
  -- the key is that of the version's entry
  pub key : parts.key ≡ (spelled text).entry.key
  -- the flag is that of the version's entry
  pub resolved : parts.resolved ≡ (spelled text).entry.resolved
  -- the moment of the notification is that of the version's entry
  pub timestamp : parts.timestamp ≡ (spelled text).entry.timestamp
  -- the other moment is the one from which the version may be forgotten
  pub expires_at : moment ≡ (spelled text).expires_at
  -- the other parts are at their places in the text
  pub places : StandAt (spelled text).entry parts.places text
