-- Silences that mute an alert.
use Rattle.std.specs.Prelude.{◌≡◌, ◌≢◌, ◌⊎◌, ℕ, Bool, true, false, not, ◌&&◌, List, [], ◌∷◌, map, filter, nat_lt, nat_le, All, Any}
use Rattle.am_version_order.specs.Versions.{is_live}
use Rattle.am_wire.specs.Unknown.{none}
use Rattle.am_silence.specs.Mesh.{Mesh, mesh_version}
use Rattle.am_matcher.specs.declared.labels.Label.{Label}
use Rattle.am_matcher.specs.declared.muting.Effect.{Effect}
use Rattle.am_matcher.specs.declared.muting.Effect.TheVariants.{Idle, Mutes, Passes, Broken}
use Rattle.am_silence.specs.declared.matcher.Matcher.{Matcher}
use Rattle.am_matcher.specs.declared.dialect.Dialect.{Dialect}
use Rattle.am_matcher.specs.declared.dialect.Dialect.TheVariants.{Regex}
use Rattle.am_matcher.specs.Matching.{IsSoundMatcher, match_all}
use Rattle.am_matcher.specs.Dialects.{AreMeant, DoMatch, IsRefusedMatcher}

-- the silence is in view, has begun and hasn't ended
abbrev pub is_active : ℕ → Mesh → Bool
is_active now m = (is_live now (mesh_version m) && nat_le m.silence.starts_at now) && nat_lt now m.silence.ends_at

-- the silence has unknown fields and no matcher, and the fields say what it matches
abbrev pub IsUnread : Mesh → Type 0
IsUnread m = (m.silence.matchers ≡ []) × (m.unknown ≢ none)

-- the silence can't be judged, since one of its patterns is broken, or unknown fields say what it matches
abbrev pub IsRefused : Dialect → Mesh → Type 0
IsRefused dialect m = Any (IsRefusedMatcher dialect) m.silence.matchers ⊎ IsUnread m

-- The effect of a silence on an alert. If the silence is active and can be judged, its matchers decide.
abbrev pub IsEffect : Dialect → List Label → ℕ → Mesh → Effect → Type 0
IsEffect dialect labels now m Idle = is_active now m ≡ false
IsEffect dialect labels now m Mutes = (is_active now m ≡ true) × (¬ IsUnread m) × DoMatch dialect m.silence.matchers labels true
IsEffect dialect labels now m Passes = (is_active now m ≡ true) × (¬ IsUnread m) × DoMatch dialect m.silence.matchers labels false
IsEffect dialect labels now m Broken = (is_active now m ≡ true) × IsRefused dialect m

-- the id alone if the silence mutes the alert, and nothing otherwise
abbrev pub if_mutes : Effect → List ℕ → List (List ℕ)
if_mutes Idle id = []
if_mutes Mutes id = id ∷ []
if_mutes Passes id = []
if_mutes Broken id = []

-- the id alone if the silence is broken, and nothing otherwise
abbrev pub if_broken : Effect → List ℕ → List (List ℕ)
if_broken Idle id = []
if_broken Mutes id = []
if_broken Passes id = []
if_broken Broken id = id ∷ []

-- a silence, the answer whether it is broken, and its matchers as they are meant if it isn't
pub record Judged : Type 0 where
  pub silence : Mesh
  pub broken : Bool
  pub meant : List Matcher

-- A broken silence can't be judged. The matchers of any other one say what it matches, and their patterns can be read.
pub record IsJudged (dialect : Dialect) (j : Judged) : Type 0 where
  pub refused : j.broken ≡ true → IsRefused dialect j.silence
  pub told : j.broken ≡ false → ¬ IsUnread j.silence
  pub are_meant : j.broken ≡ false → AreMeant dialect j.silence.silence.matchers j.meant
  pub read : j.broken ≡ false → All IsSoundMatcher j.meant

-- the silence isn't broken, and the labels satisfy all of its matchers
abbrev pub is_muting : List Label → Judged → Bool
is_muting labels j = not j.broken && match_all j.meant labels

-- the id of the silence
abbrev pub id_of : Judged → List ℕ
id_of j = j.silence.silence.id

-- Each active silence is judged. The ids are those of the silences that aren't broken and whose matchers all match. The
-- broken ids are those of the broken ones. Both are in the order of the map.
pub record AreMutedIn (dialect : Dialect) (labels : List Label) (now : ℕ) (map_of_silences : List Mesh) (ids broken : List (List ℕ)) : Type 0 where
  pub judged : List Judged
  pub all_active : map (λ j. j.silence) judged ≡ filter (is_active now) map_of_silences
  pub are_judged : All (IsJudged dialect) judged
  pub ids_are : ids ≡ map id_of (filter (is_muting labels) judged)
  pub broken_are : broken ≡ map id_of (filter (λ j. j.broken) judged)

-- the same if patterns are those of `regex`
abbrev pub AreMuted : List Label → ℕ → List Mesh → List (List ℕ) → List (List ℕ) → Type 0
AreMuted = AreMutedIn Regex
