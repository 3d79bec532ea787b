-- A silence as instances exchange it: silence = 1, expires_at = 2.
use Rattle.std.specs.Prelude.{ℕ, ◌≤◌, ◌^◌, List, [], ◌∷◌, length, Option, None, find, if◌then◌else◌}
use Rattle.std.specs.List.{list_any}
use Rattle.std.specs.Option.{option_map_or}
use Rattle.am_version_order.specs.Moments.{greatest}
use Rattle.am_version_order.specs.Versions.{Version}
use Rattle.am_wire.specs.declared.unknown.UnknownFields.{UnknownFields}
use Rattle.am_wire.specs.Unknown.{IsUnknown, none, writes_with}
use Rattle.am_silence.specs.declared.matcher.Matcher.{Matcher}
use Rattle.am_silence.specs.declared.silence.Silence.{Silence}
use Rattle.am_silence.specs.Kinds.{is_regexp}
use Rattle.am_silence.specs.Matchers.{writes_matcher, wants_label}
use Rattle.am_silence.specs.Silences.{writes_silence, IsSilence}

-- a silence, the moment from which it may be forgotten, and the fields of either that their readers don't know
pub record Mesh : Type 0 where
  pub silence : Silence
  pub expires_at : ℕ
  pub unknown : UnknownFields

-- a version of these parts
abbrev pub version_with : UnknownFields → Silence → ℕ → Mesh
version_with unknown silence expires_at = record { silence = silence; expires_at = expires_at; unknown = unknown }

-- a version without unknown fields
abbrev pub plain_version : Silence → ℕ → Mesh
plain_version silence expires_at = version_with none silence expires_at

-- the version without its unknown fields
abbrev pub without_unknown : Mesh → Mesh
without_unknown m = plain_version m.silence m.expires_at

-- the numbers of a silence's known fields
abbrev pub silence_numbers : List ℕ
silence_numbers = 1 ∷ 2 ∷ 3 ∷ 4 ∷ 5 ∷ 7 ∷ 8 ∷ 9 ∷ []

-- the canonical encoding of a version
unfoldable pub writes_mesh_silence : Mesh → List ℕ
writes_mesh_silence m = writes_with m.unknown (writes_silence m.silence) m.expires_at

-- the version is a value of its type
pub record IsMesh (m : Mesh) : Type 0 where
  pub silence : IsSilence m.silence
  pub expires_at : m.expires_at ≤ greatest
  pub unknown : IsUnknown silence_numbers m.unknown
  pub size : length (writes_mesh_silence m) ≤ 2 ^ 63

-- the version as the merge sees it
abbrev pub mesh_version : Mesh → Version (List ℕ)
mesh_version m = record { key = m.silence.id; updated = m.silence.updated_at; expires = m.expires_at; content = writes_mesh_silence m }

-- The first matcher that wants a label, by which label sets find the silence. A silence with a regular expression, which may
-- be broken whatever the labels are, has none.
abbrev pub bucket_matcher_of : List Matcher → Option Matcher
bucket_matcher_of matchers = if list_any (λ m. is_regexp m.kind) matchers then None else find wants_label matchers

-- the bucket, which is the text of that matcher, or empty if there is none
abbrev pub bucket_of : List Matcher → List ℕ
bucket_of matchers = option_map_or writes_matcher (bucket_matcher_of matchers) []
