-- The versions that posting a silence makes, and the one that ending it makes.
use Rattle.std.specs.Prelude.{◌≡◌, ◌⊎◌, ℕ, ◌+◌, ◌/◌, ◌≤◌, min, max, nat_le, Bool, true, false, ◌&&◌, ◌==◌, if◌then◌else◌, ⊤}
use Rattle.std.specs.Prelude.{List, [], ◌∷◌, Option, Some, None, option_map, is_some}
use Rattle.std.specs.Cmp.Lexicographic.{pointwise}
use Rattle.am_version_order.specs.Moments.{greatest}
use Rattle.am_version_order.specs.Versions.{is_below}
use Rattle.am_wire.specs.declared.unknown.UnknownFields.{UnknownFields}
use Rattle.am_wire.specs.Unknown.{none}
use Rattle.am_silence.specs.declared.matcher.Matcher.{Matcher}
use Rattle.am_silence.specs.declared.silence.Silence.{Silence}
use Rattle.am_silence.specs.declared.state.State.{State}
use Rattle.am_silence.specs.declared.state.State.TheVariants as states
use Rattle.am_silence.specs.declared.plan.Posted.{Posted}
use Rattle.am_silence.specs.declared.plan.Plan.{Plan}
use Rattle.am_silence.specs.declared.plan.Plan.TheVariants as plans
use Rattle.am_silence.specs.Kinds.{kind_code}
use Rattle.am_silence.specs.Mesh.{Mesh, mesh_version, version_with}
use Rattle.am_silence.specs.States.{state_of, has_expired, IsActive, IsPending}
use Rattle.am_silence.specs.Ids.{id_text}

-- a post: what is posted and when, the bits of a new identifier, and how long a version is kept after its end
pub record Post : Type 0 where
  pub posted : Posted
  pub now : ℕ
  pub bits : ℕ
  pub retention : ℕ

-- the post of these parts
abbrev pub post_of : Posted → ℕ → ℕ → ℕ → Post
post_of posted now bits retention = record { posted = posted; now = now; bits = bits; retention = retention }

-- the silence of a version of the view
abbrev pub silence_in_view : Option Mesh → Option Silence
silence_in_view version = option_map (λ m. m.silence) version

-- the held version of a post: the view's version of the posted id, or none if no id is posted
abbrev pub held_version : Option Mesh → Posted → Option Mesh
held_version held posted = if is_some posted.id then held else None

-- the silence of the held version
abbrev pub held_silence : Option Mesh → Posted → Option Silence
held_silence held posted = silence_in_view (held_version held posted)

-- ---- versions

-- the version made of these parts, which expires one retention after the silence's end, but not after the last moment
abbrev pub version_of : Silence → UnknownFields → ℕ → Mesh
version_of silence unknown retention = version_with unknown silence (min (silence.ends_at + retention) greatest)

-- the silence with the posted fields, an id and a start, updated now
abbrev pub silence_of : List ℕ → ℕ → Posted → ℕ → Silence
silence_of id starts_at posted now = record {
  id = id;
  matchers = posted.matchers;
  starts_at = starts_at;
  ends_at = posted.ends_at;
  updated_at = now;
  created_by = posted.created_by;
  comment = posted.comment;
}

-- the new silence, with the fresh id and no unknown fields; a start before now becomes now
abbrev pub new_version : Post → Mesh
new_version p = version_of (silence_of (id_text p.bits) (max p.posted.starts_at p.now) p.posted p.now) none p.retention

-- the updated silence, with the id and the unknown fields that are held
abbrev pub updated_version : Mesh → Post → Mesh
updated_version held p = version_of (silence_of held.silence.id p.posted.starts_at p.posted p.now) held.unknown p.retention

-- The silence as it is ended: an active one ends now, and a pending one starts and ends now. The update moment becomes now,
-- and the other fields stay.
abbrev pub ended_in : State → Silence → ℕ → Silence
ended_in states.Active held now = record held { ends_at = now; updated_at = now }
ended_in states.Pending held now = record held { starts_at = now; ends_at = now; updated_at = now }
ended_in states.Expired held now = held

-- the version by which a version's silence ends, with the same unknown fields
abbrev pub ended_version : Mesh → ℕ → ℕ → Mesh
ended_version held now retention = version_of (ended_in (state_of held.silence now) held.silence now) held.unknown retention

-- the version by which the silence of the view's version ends
abbrev pub ended_of : Option Mesh → ℕ → ℕ → Option Mesh
ended_of held now retention = option_map (λ version. ended_version version now retention) held

-- ---- the silences that are updated in place

-- two matchers are the same: they have the same kind, name and pattern
abbrev pub same_matcher : Matcher → Matcher → Bool
same_matcher m n = (kind_code m.kind == kind_code n.kind) && (pointwise ◌==◌ m.name n.name && pointwise ◌==◌ m.pattern n.pattern)

-- the matchers are the same, in the same order
abbrev pub same_matchers : List Matcher → List Matcher → Bool
same_matchers = pointwise same_matcher

-- the second of a moment; the first moment begins one
abbrev pub second_of : ℕ → ℕ
second_of moment = moment / 1_000_000_000

-- A silence's state allows a post to update it: if it is active, the start stays in its second and the end is not before now;
-- if it is pending, the start is not before now; an expired one is never updated.
abbrev pub allows_update : State → Silence → Posted → ℕ → Bool
allows_update states.Active held posted now = (second_of posted.starts_at == second_of held.starts_at) && nat_le now posted.ends_at
allows_update states.Pending held posted now = nat_le now posted.starts_at
allows_update states.Expired held posted now = false

-- the silence is active, its start stays in its second, and its end is not before now
pub record KeepsItsSecond (held : Silence) (posted : Posted) (now : ℕ) : Type 0 where
  pub active : IsActive held now
  pub start : second_of posted.starts_at ≡ second_of held.starts_at
  pub end : now ≤ posted.ends_at

-- the silence is pending, and its start is not before now
pub record StaysAhead (held : Silence) (posted : Posted) (now : ℕ) : Type 0 where
  pub pending : IsPending held now
  pub start : now ≤ posted.starts_at

-- a silence is updated in place if its matchers stay the same and its state allows it
abbrev pub may_update : Silence → Posted → ℕ → Bool
may_update held posted now = same_matchers posted.matchers held.matchers && allows_update (state_of held now) held posted now

-- The same rule as a proposition: the matchers stay the same, and the silence is active, its start stays in its second and its
-- end is not before now, or it is pending and its start is not before now.
pub record MayUpdate (held : Silence) (posted : Posted) (now : ℕ) : Type 0 where
  pub matchers : posted.matchers ≡ held.matchers
  pub moments : KeepsItsSecond held posted now ⊎ StaysAhead held posted now

-- there is a silence that is posted again, and it is updated in place
abbrev pub updates : Option Silence → Posted → ℕ → Bool
updates None posted now = false
updates (Some held) posted now = may_update held posted now

-- ---- the plan

-- the plan of a new silence, and of the end of the held one unless that has expired
abbrev pub new_plan : Option Mesh → Post → Plan
new_plan None p = plans.Create (new_version p)
new_plan (Some held) p =
    if has_expired held.silence p.now then plans.Create (new_version p) else plans.Replace (new_version p) (ended_version held p.now p.retention)

-- the plan of an update if it is allowed, and else of a new silence
abbrev pub plan_over : Option Mesh → Post → Plan
plan_over None p = new_plan None p
plan_over (Some held) p = if may_update held.silence p.posted p.now then plans.Update (updated_version held p) else new_plan (Some held) p

-- the plan of a post; `held` is the view's version of the posted id
unfoldable pub planned : Option Mesh → Post → Plan
planned held p = plan_over (held_version held p.posted) p

-- the versions of a plan, the new silence first
abbrev pub versions : Plan → List Mesh
versions (plans.Update version) = version ∷ []
versions (plans.Create version) = version ∷ []
versions (plans.Replace new ended) = new ∷ ended ∷ []

-- the plan updates the silence that is posted again
abbrev pub IsUpdate : Plan → Type 0
IsUpdate (plans.Update version) = ⊤
IsUpdate (plans.Create version) = ⊥
IsUpdate (plans.Replace new ended) = ⊥

-- the version that replaces that of the held silence
abbrev pub successor : Plan → Option Mesh
successor (plans.Update version) = Some version
successor (plans.Create version) = None
successor (plans.Replace new ended) = Some ended

-- the version is one of the same silence as the held one, and greater
pub record Succeeds (held version : Mesh) : Type 0 where
  pub same_id : version.silence.id ≡ held.silence.id
  pub greater : is_below (mesh_version held) (mesh_version version) ≡ true
