-- The version that a silence of API v2 (`gettableSilence`, a JSON object of RFC 8259) shows. Keys that are not named here are
-- ignored, `status` among them.
use Rattle.std.specs.Prelude.{◌≡◌, ℕ, ◌-◌, ◌%◌, ◌≤◌, length, List, [], ◌∷◌, codes, Some, IsSome}
use Rattle.serde_json.specs.Data.{Data}
use Rattle.am_wire.specs.Limits.{most}
use Rattle.am_wire.specs.Unknown.{none}
use Rattle.am_silence.specs.declared.silence.Silence.{Silence}
use Rattle.am_silence.specs.Mesh.{Mesh, plain_version, writes_mesh_silence}
use Rattle.am_silence_json.specs.declared.key.ShownKey.{ShownKey}
use Rattle.am_silence_json.specs.declared.key.ShownKey.TheVariants as keys
use Rattle.am_silence_json.specs.Posts.{text_in, matchers_in, HasMoment}

-- the names of the keys
abbrev pub shown_key_text : ShownKey → List ℕ
shown_key_text keys.Id = codes "id"
shown_key_text keys.StartsAt = codes "startsAt"
shown_key_text keys.EndsAt = codes "endsAt"
shown_key_text keys.UpdatedAt = codes "updatedAt"
shown_key_text keys.CreatedBy = codes "createdBy"
shown_key_text keys.Comment = codes "comment"
shown_key_text keys.Matchers = codes "matchers"

-- the keys that are tested before a key
abbrev pub shown_before : ShownKey → List ShownKey
shown_before keys.Id = []
shown_before keys.StartsAt = keys.Id ∷ []
shown_before keys.EndsAt = keys.Id ∷ keys.StartsAt ∷ []
shown_before keys.UpdatedAt = keys.Id ∷ keys.StartsAt ∷ keys.EndsAt ∷ []
shown_before keys.CreatedBy = keys.Id ∷ keys.StartsAt ∷ keys.EndsAt ∷ keys.UpdatedAt ∷ []
shown_before keys.Comment = keys.Id ∷ keys.StartsAt ∷ keys.EndsAt ∷ keys.UpdatedAt ∷ keys.CreatedBy ∷ []
shown_before keys.Matchers = keys.Id ∷ keys.StartsAt ∷ keys.EndsAt ∷ keys.UpdatedAt ∷ keys.CreatedBy ∷ keys.Comment ∷ []

-- ---- versions as they are shown

-- a moment cut to milliseconds
abbrev pub cut_moment : ℕ → ℕ
cut_moment m = m - m % 1_000_000

-- a silence with its moments cut to milliseconds
abbrev pub cut_silence : Silence → Silence
cut_silence s = record {
  id = s.id;
  matchers = s.matchers;
  starts_at = cut_moment s.starts_at;
  ends_at = cut_moment s.ends_at;
  updated_at = cut_moment s.updated_at;
  created_by = s.created_by;
  comment = s.comment;
}

-- API v2 shows no expiry of a silence, so the end stands for it: the silence counts until its end.
abbrev pub until_end : Silence → Mesh
until_end s = plain_version s s.ends_at

-- the version that is shown for a version
abbrev pub cut_to_shown : Mesh → Mesh
cut_to_shown m = until_end (cut_silence m.silence)

-- the canonical encoding of a version has at most as many bytes as a message may have
abbrev pub FitsMessage : Mesh → Type 0
FitsMessage m = length (writes_mesh_silence m) ≤ most

-- ---- objects that show versions

-- the value of a key is the text of a moment, which is cut to milliseconds
pub record HasCut (key : List ℕ) (d : Data) (m : ℕ) : Type 0 where
  pub whole : ℕ
  pub here : HasMoment key d whole
  pub cut : m ≡ cut_moment whole

-- the object shows this version, whose expiry is its end, and which has no unknown fields
pub record IsShown (d : Data) (m : Mesh) : Type 0 where
  pub id : text_in (codes "id") d ≡ Some m.silence.id
  pub starts_at : HasCut (codes "startsAt") d m.silence.starts_at
  pub ends_at : HasCut (codes "endsAt") d m.silence.ends_at
  pub updated_at : HasCut (codes "updatedAt") d m.silence.updated_at
  pub created_by : text_in (codes "createdBy") d ≡ Some m.silence.created_by
  pub comment : text_in (codes "comment") d ≡ Some m.silence.comment
  pub matchers : matchers_in d ≡ Some m.silence.matchers
  pub expires_at : m.expires_at ≡ m.silence.ends_at
  pub unknown : m.unknown ≡ none

-- these objects show these versions, one after another
abbrev pub AreShown : List Data → List Mesh → Type 0
AreShown [] [] = Unit {0}
AreShown [] (m ∷ ms) = ⊥
AreShown (d ∷ ds) [] = ⊥
AreShown (d ∷ ds) (m ∷ ms) = IsShown d m × AreShown ds ms

-- ---- objects that show no version

-- the value of a key is of the right kind
abbrev pub IsShownRight : Data → ShownKey → Type 0
IsShownRight d keys.Id = IsSome (text_in (codes "id") d)
IsShownRight d keys.StartsAt = (m : ℕ) × HasMoment (codes "startsAt") d m
IsShownRight d keys.EndsAt = (m : ℕ) × HasMoment (codes "endsAt") d m
IsShownRight d keys.UpdatedAt = (m : ℕ) × HasMoment (codes "updatedAt") d m
IsShownRight d keys.CreatedBy = IsSome (text_in (codes "createdBy") d)
IsShownRight d keys.Comment = IsSome (text_in (codes "comment") d)
IsShownRight d keys.Matchers = IsSome (matchers_in d)

-- the values of these keys are of the right kind
abbrev pub AreShownRight : Data → List ShownKey → Type 0
AreShownRight d [] = Unit {0}
AreShownRight d (key ∷ others) = IsShownRight d key × AreShownRight d others

-- the value of the key is missing or of another kind, and those of the keys before it are right
pub record IsFirstUnshown (d : Data) (key : ShownKey) : Type 0 where
  pub wrong : ¬ IsShownRight d key
  pub before : AreShownRight d (shown_before key)

-- the object shows a version that is too large
pub record IsTooLarge (d : Data) : Type 0 where
  pub version : Mesh
  pub shown : IsShown d version
  pub size : ¬ FitsMessage version
