-- The parts of a version in its canonical encoding.
use Rattle.std.specs.Prelude.{◌≡◌, ℕ, List}
use Rattle.am_silence.specs.declared.canonical.CanonicalSilence.{CanonicalSilence}
use Rattle.am_silence.specs.Mesh.{Mesh, IsMesh, plain_version, writes_mesh_silence}
use Rattle.am_silence.specs.Offsets.{StandIn}

-- the version made of the parts, which has no unknown fields
abbrev pub version_of : CanonicalSilence → Mesh
version_of s = plain_version s.fields s.expires_at

-- the text spells these parts
pub record IsCanonical (text : List ℕ) (s : CanonicalSilence) : Type 0 where
  -- the text is the canonical one of their version
  pub is : text ≡ writes_mesh_silence (version_of s)
  -- the version is a value of its type
  pub value : IsMesh (version_of s)
  -- the parts are at their places in the text
  pub places : StandIn s.fields s.places text
